-- What each deed tells, and who waits behind it.
use Rattle.std.proofs.Common.{◌≡◌, inl, inr, ◌∙◌, ap, sym, subst, refl, arith, ℕ, ◌<◌, List, [], ◌∷◌, ◌++◌, length, append_assoc}
use Rattle.std.specs.Prelude.{Option, Some, None, slice_get, slice_set}
use Rattle.std.proofs.lemmas.Option.{slice_get_within}
use Rattle.decl_core.specs.declared.object.Object.{Object}
use Rattle.live_core.specs.Hall.{Every, Hall}
use Rattle.audit_core.specs.Steps.{Step, ran}
use Rattle.live_core.specs.Scene.{Scene, with_guests}
use Rattle.live_core.specs.HostedSteps as hosted
use Rattle.live_core.specs.HostedSteps.{Steps, goes_on}
use Rattle.guest_core.specs.Guests.{Guests}
use Rattle.history_law.specs.Happens.{all_happen}
use Rattle.keep_loop.specs.Texts.{to}
use Rattle.client_core.specs.Asked.{IsRefused}
use Rattle.client_core.specs.Refusals.{refusal_text}
use Rattle.client_core.specs.Deeds.{Texts, Deed, Nothing, OnlyTold, Then}
use Rattle.client_core.specs.State.{Peer, State, one_text, told_to, who_in}
use Rattle.history_law.specs.Said.{Account, AllWent, Went, SaysNoReply}
use Rattle.history_law.proofs.Going.{all_more, all_alike, told_alike, get_at, no_account, both, went_none, went_then, at_one, went_one, went_quiet}
use Rattle.history_law.proofs.Plain.{hinted_plain}
use Rattle.history_law.specs.Answers.{IsTold, AllAlong}
use Rattle.history_law.specs.Awaits.{Lines, HasAsked, waits_in, Awaits}
use Rattle.history_law.proofs.Ends.{along_both, along_map}
use Rattle.history_law.proofs.Places.{AllStay, stay_set, waits_others, waits_here, all_stay, awaits_past, held_set}

-- it is the same object all along
one_object : (old new : Scene) (lines : List ℕ) → hosted.Step old lines new → new.hall.object ≡ old.hall.object
one_object old new lines (hosted.comes name now a guests is_name enters) = refl
one_object old new lines (hosted.gets_number session least) = refl
one_object old new lines (hosted.leaves session now was_here guests left) = refl
one_object old new lines (hosted.calls session operation arguments a does) = ap (λ (s : Scene). s.hall.object) does.left ∙ does.takes.same.fixed.object
one_object old new lines (hosted.cancels session told said gone) = ap (λ (h : Hall). h.object) gone.lets_go.left.left

pub all_object : (old new : Scene) (lines : List ℕ) → Steps old lines new → new.hall.object ≡ old.hall.object
all_object old new lines hosted.rests = refl
all_object old new lines (hosted.does step) = one_object old new lines step
all_object old new lines (hosted.goes_on {mid = mid} {lines = before} {added = added} first more) = all_object mid new added more ∙ all_object old mid before first

-- the object that stood at a place before
pub was_at : (a b : List Scene) (added : Texts) (first : Account) (j : ℕ) (m : Scene) → AllWent a added first b → slice_get b j ≡ Some m →
    (h : Scene) × (slice_get a j ≡ Some h) × Went h (to j added) (first j) m
was_at a b added first j m went there =
    let within : j < length a = omega (arith, slice_get_within b j m there, went.count) in
    let h = get_at a j within in
    (h.0, h.1, went.each j h.0 m h.1 there)

-- what is told of a part of what happened is so of all of it
pub told_before : (heard : Lines) (objects : List Scene) (first more : Account) (past : Texts) (who : ℕ) (text : List ℕ) → IsTold heard past objects first who text → IsTold heard past objects (both first more) who text
told_before heard objects first more past who text (inl (n, reply, is, a)) =
    let run = a.run in
    inl (
      n,
      reply,
      is,
      record {
        run = record {
          object = run.object;
          scene = run.scene;
          there = run.there;
          call = run.call;
          later = more run.object ++ run.later;
          before = run.before;
          ran_so = ap (λ (l : List Step). more run.object ++ l) run.ran_so ∙ sym (append_assoc (more run.object) run.later (ran run.call reply ∷ run.before));
          told_is = run.told_is;
        };
        asked = a.asked;
        accepted = a.accepted;
      },
    )
told_before heard objects first more past who text (inr (inl (n, reply, is, kept))) =
    inr (inl (
      n,
      reply,
      is,
      record {
        object = kept.object;
        scene = kept.scene;
        there = kept.there;
        now = kept.now;
        lines = kept.lines;
        since = kept.since;
        later = more kept.object ++ kept.later;
        moment = ap (λ (l : List Step). more kept.object ++ l) kept.moment ∙ sym (append_assoc (more kept.object) kept.later (all_happen kept.since []));
        session = kept.session;
        key = kept.key;
        asked = kept.asked;
        repeats = kept.repeats;
      },
    ))
told_before heard objects first more past who text (inr (inr none)) = inr (inr none)

pub told_behind : (heard : Lines) (a b : List Scene) (added : Texts) (first more : Account) → AllWent a added first b → (past : Texts) (who : ℕ) (text : List ℕ) →
    IsTold heard past b more who text → IsTold heard past a (both first more) who text
told_behind heard a b added first more went past who text (inl (n, reply, is, answer)) =
    let run = answer.run in
    let was = was_at a b added first run.object run.scene went run.there in
    inl (
      n,
      reply,
      is,
      record {
        run = record {
          object = run.object;
          scene = was.0;
          there = was.1;
          call = run.call;
          later = run.later;
          before = run.before ++ first run.object;
          ran_so = ap (λ (l : List Step). l ++ first run.object) run.ran_so ∙ append_assoc run.later (ran run.call reply ∷ run.before) (first run.object);
          told_is = run.told_is ∙ told_alike was.0 run.scene run.call.number (all_alike was.0 run.scene (to run.object added) was.2.0);
        };
        asked = subst (λ (x : Object). HasAsked heard who x run.call) (all_object was.0 run.scene (to run.object added) was.2.0) answer.asked;
        accepted = answer.accepted;
      },
    )
told_behind heard a b added first more went past who text (inr (inl (n, reply, is, kept))) =
    let was = was_at a b added first kept.object kept.scene went kept.there in
    let since = was.2.0 in
    inr (inl (
      n,
      reply,
      is,
      record {
        object = kept.object;
        scene = was.0;
        there = was.1;
        now = kept.now;
        lines = to kept.object added ++ kept.lines;
        since = goes_on since kept.since;
        later = kept.later;
        moment = ap (λ (l : List Step). l ++ first kept.object) kept.moment ∙ append_assoc kept.later (all_happen kept.since []) (first kept.object)
            ∙ ap (λ (l : List Step). kept.later ++ (all_happen kept.since [] ++ l)) was.2.1
            ∙ ap (λ (l : List Step). kept.later ++ l) (sym (all_more kept.scene kept.now kept.lines kept.since (all_happen since [])));
        session = kept.session;
        key = kept.key;
        asked = kept.asked;
        repeats = kept.repeats;
      },
    ))
told_behind heard a b added first more went past who text (inr (inr none)) = inr (inr none)

-- What is done: what happened, what is told of it, and who waits then.
pub record Did (heard : Lines) (past : Texts) (old : State) (said added : Texts) (new : State) : Type 0 where
  pub account : Account
  pub went : AllWent old.objects added account new.objects
  pub told : AllAlong (λ (p : Texts) (who : ℕ) (text : List ℕ). IsTold heard p old.objects account who text) past said
  pub awaits : Awaits heard (past ++ said) new.objects new.peers

abbrev pub DidBy : Lines → Deed → Type 0
DidBy heard deed = (past : Texts) (old new : State) (said added : Texts) → Awaits heard past old.objects old.peers → deed old said added new → Did heard past old said added new

abbrev pub IsPlain : Texts → Type 0
IsPlain said = Every (λ (s : ℕ × List ℕ). SaysNoReply s.1) said

pub plain_one : (who : Option ℕ) (text : List ℕ) → SaysNoReply text → IsPlain (one_text who text)
plain_one None text is = tt
plain_one (Some who) text is = (is, tt)

pub plain_to : (peers : List Peer) (place : ℕ) (text : List ℕ) → SaysNoReply text → IsPlain (told_to peers place text)
plain_to peers place text is = plain_one (who_in (slice_get peers place)) text is

pub plain_along : (heard : Lines) (objects : List Scene) (account : Account) (past said : Texts) → IsPlain said → AllAlong (λ (p : Texts) (who : ℕ) (text : List ℕ). IsTold heard p objects account who text) past said
plain_along heard objects account past [] all = tt
plain_along heard objects account past (s ∷ said) all = (inr (inr all.0), plain_along heard objects account (past ++ s ∷ []) said all.1)

pub same_awaits : (heard : Lines) (past : Texts) (old new : State) → new.objects ≡ old.objects → new.peers ≡ old.peers → Awaits heard past old.objects old.peers → Awaits heard past new.objects new.peers
same_awaits heard past old new objects peers a =
    subst (λ (l : List Scene). Awaits heard past l new.peers) (sym objects) (subst (λ (p : List Peer). Awaits heard past old.objects p) (sym peers) a)

module _ (heard : Lines) where
  -- nothing happens
  pub did_still : (past : Texts) (old new : State) (said shown added : Texts) → said ≡ shown → added ≡ [] → new.objects ≡ old.objects →
      AllAlong (λ (p : Texts) (who : ℕ) (text : List ℕ). IsTold heard p old.objects no_account who text) past shown → Awaits heard (past ++ shown) new.objects new.peers → Did heard past old said added new
  did_still past old new said shown added told none same all a = record {
    account = no_account;
    went = subst (λ (x : Texts). AllWent old.objects x no_account new.objects) (sym none) (subst (λ (l : List Scene). AllWent old.objects [] no_account l) (sym same) (went_none old.objects));
    told = subst (λ (s : Texts). AllAlong (λ (p : Texts) (who : ℕ) (text : List ℕ). IsTold heard p old.objects no_account who text) past s) (sym told) all;
    awaits = subst (λ (s : Texts). Awaits heard (past ++ s) new.objects new.peers) (sym told) a;
  }

  pub did_nothing : DidBy heard Nothing
  did_nothing past old new said added a n =
      did_still past old new said [] added n.told n.lines (ap (λ (s : State). s.objects) n.left) tt
      (same_awaits heard (past ++ []) old new (ap (λ (s : State). s.objects) n.left) (ap (λ (s : State). s.peers) n.left) (awaits_past heard past [] old.objects old.peers a))

  pub did_along : (place : ℕ) (text : List ℕ) (past : Texts) (old new : State) (said added : Texts) → Awaits heard past old.objects old.peers →
      AllAlong (λ (p : Texts) (who : ℕ) (x : List ℕ). IsTold heard p old.objects no_account who x) past (told_to old.peers place text) →
      OnlyTold place text old said added new → Did heard past old said added new
  did_along place text past old new said added a all n =
      let shown = told_to old.peers place text in
      did_still past old new said shown added n.told n.lines (ap (λ (s : State). s.objects) n.left) all
      (same_awaits heard (past ++ shown) old new (ap (λ (s : State). s.objects) n.left) (ap (λ (s : State). s.peers) n.left) (awaits_past heard past shown old.objects old.peers a))

  pub did_only : (place : ℕ) (text : List ℕ) → SaysNoReply text → DidBy heard (OnlyTold place text)
  did_only place text none past old new said added a n =
      did_along place text past old new said added a (plain_along heard old.objects no_account past (told_to old.peers place text) (plain_to old.peers place text none)) n

  pub did_refused : (place : ℕ) → DidBy heard (IsRefused place)
  did_refused place past old new said added a is = did_only place (refusal_text is.line is.hint) (hinted_plain is.line is.is is.hint) past old new said added a is.only

  -- one thing, and another behind it
  abbrev pub did_two : (past : Texts) (old mid new : State) (one two added further : Texts) → Did heard past old one added mid → Did heard (past ++ one) mid two further new → Did heard past old (one ++ two) (added ++ further) new
  did_two past old mid new one two added further a b = record {
    account = both a.account b.account;
    went = went_then old.objects mid.objects new.objects added further a.account b.account a.went b.went;
    told = along_both (λ (p : Texts) (who : ℕ) (text : List ℕ). IsTold heard p old.objects (both a.account b.account) who text) past one two
        (along_map (λ (p : Texts) (who : ℕ) (text : List ℕ). IsTold heard p old.objects a.account who text)
        (λ (p : Texts) (who : ℕ) (text : List ℕ). IsTold heard p old.objects (both a.account b.account) who text) past one
        (λ p who text is. told_before heard old.objects a.account b.account p who text is) a.told)
        (along_map (λ (p : Texts) (who : ℕ) (text : List ℕ). IsTold heard p mid.objects b.account who text)
        (λ (p : Texts) (who : ℕ) (text : List ℕ). IsTold heard p old.objects (both a.account b.account) who text) (past ++ one) two
        (λ p who text is. told_behind heard old.objects mid.objects added a.account b.account a.went p who text is) b.told);
    awaits = subst (λ (p : Texts). Awaits heard p new.objects new.peers) (append_assoc past one two) b.awaits;
  }

  abbrev pub did_as : (past : Texts) (old new : State) (said shown added lines : Texts) → said ≡ shown → added ≡ lines → Did heard past old shown lines new → Did heard past old said added new
  did_as past old new said shown added lines told is d =
      subst (λ (s : Texts). Did heard past old s added new) (sym told) (subst (λ (x : Texts). Did heard past old shown x new) (sym is) d)

  pub did_then : (first second : Deed) → DidBy heard first → DidBy heard second → DidBy heard (Then first second)
  did_then first second one two past old new said added a is =
      let done = one past old is.mid is.said_first is.added_first a is.one in
      did_as past old new said (is.said_first ++ is.said_then) added (is.added_first ++ is.added_then) is.told is.lines
      (did_two past old is.mid new is.said_first is.said_then is.added_first is.added_then done
      (two (past ++ is.said_first) is.mid new is.said_then is.added_then done.awaits is.two))

  -- nothing is told, and behind that what is done
  pub did_from : (past : Texts) (old mid new : State) (said added : Texts) → Did heard past old [] [] mid → Did heard (past ++ []) mid said added new → Did heard past old said added new
  did_from past old mid new said added a b = did_two past old mid new [] said [] added a b

  -- something that says no reply is told first
  abbrev pub did_before : (past first : Texts) (old new : State) (said added : Texts) → IsPlain first → Did heard (past ++ first) old said added new → Did heard past old (first ++ said) added new
  did_before past first old new said added plain d = record {
    account = d.account;
    went = d.went;
    told = along_both (λ (p : Texts) (who : ℕ) (text : List ℕ). IsTold heard p old.objects d.account who text) past first said (plain_along heard old.objects d.account past first plain) d.told;
    awaits = subst (λ (p : Texts). Awaits heard p new.objects new.peers) (append_assoc past first said) d.awaits;
  }

  -- one object goes on, and what is told says of no call what it replied
  pub did_goes : (past : Texts) (old new : State) (said added : Texts) (at : ℕ) (before after : Scene) (lines : List ℕ) → slice_get old.objects at ≡ Some before → (goes : Steps before lines after) →
      added ≡ (at, lines) ∷ [] → new.objects ≡ slice_set old.objects at after → IsPlain said → Awaits heard (past ++ said) new.objects new.peers → Did heard past old said added new
  did_goes past old new said added at before after lines there goes is same plain a = record {
    account = at_one at (all_happen goes []);
    went = subst (λ (x : Texts). AllWent old.objects x (at_one at (all_happen goes [])) new.objects) (sym is)
        (subst (λ (l : List Scene). AllWent old.objects ((at, lines) ∷ []) (at_one at (all_happen goes [])) l) (sym same) (went_one old.objects at before after lines there goes));
    told = plain_along heard old.objects (at_one at (all_happen goes [])) past said plain;
    awaits = a;
  }

  pub did_quiet : (past : Texts) (old new : State) (at : ℕ) (before after : Scene) → slice_get old.objects at ≡ Some before → (goes : Steps before [] after) → new.objects ≡ slice_set old.objects at after →
      Awaits heard (past ++ []) new.objects new.peers → Did heard past old [] [] new
  did_quiet past old new at before after there goes same a = record {
    account = at_one at (all_happen goes []);
    went = subst (λ (l : List Scene). AllWent old.objects [] (at_one at (all_happen goes [])) l) (sym same) (went_quiet old.objects at before after there goes);
    told = tt;
    awaits = a;
  }

  -- clients of an object change
  pub guests_change : (past : Texts) (objects : List Scene) (peers : List Peer) (at : ℕ) (object : Scene) (guests : Guests) → slice_get objects at ≡ Some object →
      Awaits heard past objects peers → Awaits heard past (slice_set objects at (with_guests object guests)) peers
  guests_change past objects peers at object guests there a =
      let after = with_guests object guests in
      let new = slice_set objects at after in
      let stay : AllStay objects new (waits_in objects) (waits_in new) =
      stay_set objects at object after (waits_in new) there refl
      (λ c waits. (c, waits_here objects at object after c there waits, record { session = refl; operation = refl; arguments = refl; told = refl }))
      (λ j c other waits. waits_others objects at after j c other waits) in
      record {
        held = held_set objects at object after there a.held (a.held at object there);
        alone = a.alone;
        seated = all_stay heard past objects new (waits_in objects) (waits_in new) peers stay a.seated;
      }
