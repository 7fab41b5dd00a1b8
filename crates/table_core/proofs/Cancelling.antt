-- Calls that are cancelled.
use Rattle.std.proofs.Common.{◌≡◌, ◌∙◌, ap, sym, subst, refl, ℕ, inl, inr, List, [], ◌∷◌, ◌++◌, true≢false}
use Rattle.std.specs.Prelude.{Bool, true, false, Some, slice_get, slice_set}
use Rattle.keep_loop.specs.Posts.{Tells}
use Rattle.keep_loop.specs.declared.post.Post.{Post}
use Rattle.word_core.specs.Answers.{cancelled_line}
use Rattle.session_text.specs.declared.line.ReplyLine.{ReplyLine}
use Rattle.session_text.specs.Lines.{cancel_name, line_text, withdrawn_text}
use Rattle.guest_core.specs.declared.answer.Cancelled.{Cancelled}
use Rattle.guest_core.specs.declared.answer.Cancelled.TheVariants as answers
use Rattle.client_core.specs.declared.client.OpenObject.{OpenObject}
use Rattle.live_core.specs.Keys.{WaitsAs}
use Rattle.live_core.specs.Scene.{Scene}
use Rattle.client_core.specs.Custody.{Custodies}
use Rattle.client_core.specs.State.{Peer, State, opened_at, told_to, with_object}
use Rattle.client_core.specs.Deeds.{Texts, OnlyTold}
use Rattle.client_core.specs.Refusals.{IsRefusal}
use Rattle.client_core.specs.Asked.{Ends, LetsGo, AnswersCancel}
use Rattle.client_core.specs.Turns.{NoneWaits, Withdraws}
use Rattle.client_core.proofs.Doing.{ends_keeps}
use Rattle.table_core.specs.Brings.{Brings}
use Rattle.table_core.specs.Objects.{HasCancelled, NoneWaitsAt}
use Rattle.table_core.specs.Parts.{Stays, HasLetGo, TellsCancelled, CancelsOne}
use Rattle.table_core.proofs.Bringing.{brings_as, plainly}
use Rattle.table_core.proofs.Entering.{of, objects_are}
use Rattle.table_core.proofs.Telling.{tells_none, tells_then}

pub cancel_refused : (a b : Post) (old new : State) (place told : ℕ) (line : ReplyLine) → IsRefusal line → Brings (OnlyTold place (line_text line)) a old b new →
    Brings (AnswersCancel place told) a old b new
cancel_refused a b old new place told line is brings =
    brings_as (OnlyTold place (line_text line)) (AnswersCancel place told) a b old new (λ said added only. inr (inr (plainly place line old new said added is only))) brings

pub not_cancelled : (a b : Post) (old new : State) (place told : ℕ) (answer : Cancelled) → (answer ≡ answers.Cancelled → ⊥) →
    Brings (OnlyTold place (cancelled_line told (cancel_name answer))) a old b new → Brings (AnswersCancel place told) a old b new
not_cancelled a b old new place told answer other brings =
    brings_as (OnlyTold place (cancelled_line told (cancel_name answer))) (AnswersCancel place told) a b old new
    (λ said added only. inr (inl (record { answer = answer; other = other; only = only }))) brings

answers_by : (old new : State) (said added : Texts) (place told session : ℕ) (opened : OpenObject) → opened_at old place ≡ Some opened →
    ((object : Scene) → slice_get old.objects opened.object ≡ Some object → WaitsAs object session told) →
    CancelsOne place opened.object session told old said added new → AnswersCancel place told old said added new
answers_by old new said added place told session opened by waits (inl c) = inl (record {
  opened = opened;
  by = by;
  object = c.lets_go.object;
  there = c.lets_go.there;
  session = session;
  waits = waits c.lets_go.object c.lets_go.there;
  number = c.number;
  ended = c.ended;
  told_is = c.told_is;
  lets_go = c.lets_go;
})
answers_by old new said added place told session opened by waits (inr (inl c)) = inr (inl c)
answers_by old new said added place told session opened by waits (inr (inr r)) = inr (inr r)

pub cancels_by : (a b : Post) (old new : State) (place told session : ℕ) (opened : OpenObject) → Some opened ≡ opened_at old place →
    ((object : Scene) → slice_get old.objects opened.object ≡ Some object → WaitsAs object session told) →
    Brings (CancelsOne place opened.object session told) a old b new → Brings (AnswersCancel place told) a old b new
cancels_by a b old new place told session opened by waits brings =
    brings_as (CancelsOne place opened.object session told) (AnswersCancel place told) a b old new
    (λ said added is. answers_by old new said added place told session opened (sym by) waits is) brings

pub one_refused : (a b c : Post) (old mid new : State) (place at session told : ℕ) (line : ReplyLine) → IsRefusal line → Tells a b [] [] → mid ≡ old →
    Brings (OnlyTold place (line_text line)) b mid c new → Brings (CancelsOne place at session told) a old c new
one_refused a b c old mid new place at session told line is quiet same brings =
    subst (λ (s : State). Brings (CancelsOne place at session told) a s c new) same (record {
      said = brings.said;
      added = brings.added;
      tells = tells_then a b c [] brings.said [] brings.added quiet brings.tells;
      is = inr (inr (plainly place line mid new brings.said brings.added is brings.is));
    })

-- behind the memory that was taken
pub one_behind : (a b c : Post) (old mid new : State) (place at session told : ℕ) → Tells a b [] [] → mid ≡ old →
    Brings (CancelsOne place at session told) b mid c new → Brings (CancelsOne place at session told) a old c new
one_behind a b c old mid new place at session told quiet same brings =
    subst (λ (s : State). Brings (CancelsOne place at session told) a s c new) same (record {
      said = brings.said;
      added = brings.added;
      tells = tells_then a b c [] brings.said [] brings.added quiet brings.tells;
      is = brings.is;
    })

ended_is_other : answers.Ended ≡ answers.Cancelled → ⊥
ended_is_other is = true≢false (ap is_ended is)
  where
    is_ended : Cancelled → Bool
    is_ended answers.Cancelled = false
    is_ended answers.Running = false
    is_ended answers.Ended = true
    is_ended answers.Unknown = false

pub one_ended : (a b c : Post) (old mid new : State) (place at session told : ℕ) → NoneWaits at session old × Stays a old b mid →
    Brings (OnlyTold place (cancelled_line told (cancel_name answers.Ended))) b mid c new → Brings (CancelsOne place at session told) a old c new
one_ended a b c old mid new place at session told stays brings =
    subst (λ (s : State). Brings (CancelsOne place at session told) a s c new) stays.1.left (record {
      said = brings.said;
      added = brings.added;
      tells = tells_then a b c [] brings.said [] brings.added stays.1.tells brings.tells;
      is = inr (inl (record { answer = answers.Ended; other = ended_is_other; only = brings.is }));
    })

lets_go_by : (old mid new : State) (at session number : ℕ) (a b : Post) (said added : Texts) (go : HasLetGo at session number a old b mid) →
    Ends at session number (withdrawn_text number) mid said added new → LetsGo at session number old said ((at, go.line) ∷ []) new
lets_go_by old mid new at session number a b said added go ends = record {
  object = go.object;
  there = go.there;
  after = go.after;
  line = go.line;
  cancels = go.cancels;
  lines = refl;
  ends = subst (λ (l : Texts). Ends at session number (withdrawn_text number) (with_object old at go.after) said l new)
      (ends_keeps at session number (withdrawn_text number) mid new said added ends).1
      (subst (λ (s : State). Ends at session number (withdrawn_text number) s said added new) go.adds.left ends);
}

-- who asked is told so, and then its client
pub tells_cancelled : (a b c : Post) (old mid new : State) (place at session told number : ℕ) →
    Brings (OnlyTold place (cancelled_line told (cancel_name answers.Cancelled))) a old b mid →
    Brings (Ends at session number (withdrawn_text number)) b mid c new → Brings (TellsCancelled place at session told number) a old c new
tells_cancelled a b c old mid new place at session told number tells ends =
    let none : ends.added ≡ [] = (ends_keeps at session number (withdrawn_text number) mid new ends.said ends.added ends.is).1 in
    record {
      said = tells.said ++ ends.said;
      added = tells.added ++ ends.added;
      tells = tells_then a b c tells.said ends.said tells.added ends.added tells.tells ends.tells;
      is = record {
        ended = ends.said;
        told_is = ap (λ (l : Texts). l ++ ends.said) tells.is.told;
        lines = ap (λ (l : Texts). l ++ ends.added) tells.is.lines ∙ none;
        ends = subst (λ (l : Texts). Ends at session number (withdrawn_text number) old ends.said l new) none
            (subst (λ (s : State). Ends at session number (withdrawn_text number) s ends.said ends.added new) tells.is.left ends.is);
      };
    }

pub one_cancelled : (a b c : Post) (old mid new : State) (place at session told number : ℕ) → HasLetGo at session number a old b mid →
    Brings (TellsCancelled place at session told number) b mid c new → Brings (CancelsOne place at session told) a old c new
one_cancelled a b c old mid new place at session told number go tells = record {
  said = tells.said;
  added = (at, go.line) ∷ tells.added;
  tells = tells_then a b c [] tells.said ((at, go.line) ∷ []) tells.added go.adds.tells tells.tells;
  is = inl (record {
    number = number;
    ended = tells.is.ended;
    told_is = tells.is.told_is
        ∙ ap (λ (s : State). told_to s.peers place (cancelled_line told (cancel_name answers.Cancelled)) ++ tells.is.ended) go.adds.left;
    lets_go = subst (λ (l : Texts). LetsGo at session number old tells.is.ended l new) (ap (λ (l : Texts). (at, go.line) ∷ l) (sym tells.is.lines))
        (lets_go_by old mid new at session number a b tells.is.ended [] go tells.is.ends);
  });
}

pub withdraws_none : (a b : Post) (old new : State) (at session : ℕ) → NoneWaits at session old × Stays a old b new → Brings (Withdraws at session) a old b new
withdraws_none a b old new at session stays = record {
  said = [];
  added = [];
  tells = stays.1.tells;
  is = inr (stays.0, record { told = refl; lines = refl; left = stays.1.left });
}

pub withdraws_one : (a b c : Post) (old mid new : State) (at session number : ℕ) → HasLetGo at session number a old b mid →
    Brings (Ends at session number (withdrawn_text number)) b mid c new → Brings (Withdraws at session) a old c new
withdraws_one a b c old mid new at session number go ends =
    let none : ends.added ≡ [] = (ends_keeps at session number (withdrawn_text number) mid new ends.said ends.added ends.is).1 in
    record {
      said = ends.said;
      added = (at, go.line) ∷ [];
      tells = subst (λ (l : Texts). Tells a c ends.said ((at, go.line) ∷ l)) none
          (tells_then a b c [] ends.said ((at, go.line) ∷ []) ends.added go.adds.tells ends.tells);
      is = inl (number, lets_go_by old mid new at session number a b ends.said ends.added go ends.is);
    }

pub lets_go_none : (custody : Custodies) (a : Post) (old new : List Scene) (peers : List Peer) (at session : ℕ) → (new ≡ old) × NoneWaitsAt old at session →
    NoneWaits at session (of custody old peers) × Stays a (of custody old peers) a (of custody new peers)
lets_go_none custody a old new peers at session is = (is.1, record { tells = tells_none a; left = objects_are custody old new peers is.0 })

pub lets_go_some : (custody : Custodies) (a b : Post) (old new : List Scene) (peers : List Peer) (at session number : ℕ) (line bytes : List ℕ) →
    HasCancelled old at session number line new → bytes ≡ line → Tells a b [] ((at, bytes) ∷ []) → HasLetGo at session number a (of custody old peers) b (of custody new peers)
lets_go_some custody a b old new peers at session number line bytes has is tells = record {
  object = has.object;
  there = has.there;
  after = has.after;
  line = line;
  cancels = has.cancels;
  adds = record {
    tells = subst (λ (l : List ℕ). Tells a b [] ((at, l) ∷ [])) is tells;
    left = objects_are custody (slice_set old at has.after) new peers has.left;
  };
}
