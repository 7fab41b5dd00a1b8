-- What is done while a post is filled.
use Rattle.std.proofs.Common.{◌≡◌, ◌∙◌, ap, sym, subst, refl, ℕ, List, [], ◌∷◌, ◌++◌, append_assoc}
use Rattle.std.specs.Prelude.{Some, None, Result, Ok, Err, OnErr, slice_get}
use Rattle.keep_loop.specs.Posts.{Tells}
use Rattle.keep_loop.specs.declared.post.Post.{Post}
use Rattle.session_text.specs.declared.line.ReplyLine.{ReplyLine}
use Rattle.session_text.specs.Lines.{line_text}
use Rattle.client_core.specs.State.{Peer, State, told_to, one_text, who_in}
use Rattle.client_core.specs.Deeds.{Texts, Deed, Nothing, OnlyTold, Then}
use Rattle.client_core.specs.Refusals.{IsRefusal}
use Rattle.client_core.specs.Refusals.IsHint.{none as no_hint}
use Rattle.client_core.specs.Asked.{IsRefused}
use Rattle.client_core.specs.Turns.{GoesOn}
use Rattle.client_core.specs.Turns.GoesOn.{rests, does}
use Rattle.table_core.specs.Brings.{Brings, Continues}
use Rattle.table_core.proofs.Telling.{tells_none, tells_then}

-- what is so where there is an error
pub on_err : {A E : Type 0} (r : Result A E) {P : Type 0} → P → OnErr r P
on_err (Ok a) p = tt
on_err (Err e) p = p

-- the one who is there is told, or nobody
pub told_some : (a b : Post) (peers : List Peer) (place who : ℕ) (bytes : List ℕ) → Some who ≡ who_in (slice_get peers place) →
    Tells a b ((who, bytes) ∷ []) [] → Tells a b (told_to peers place bytes) []
told_some a b peers place who bytes is tells = subst (λ o. Tells a b (one_text o bytes) []) is tells

pub told_none : (a : Post) (peers : List Peer) (place : ℕ) (bytes : List ℕ) → None ≡ who_in (slice_get peers place) → Tells a a (told_to peers place bytes) []
told_none a peers place bytes is = subst (λ o. Tells a a (one_text o bytes) []) is (tells_none a)

-- the line that was made is told
pub told_by : (a b : Post) (peers : List Peer) (place : ℕ) (bytes items before text : List ℕ) → bytes ≡ items → items ≡ before ++ text → before ≡ [] →
    Tells a b (told_to peers place bytes) [] → Tells a b (told_to peers place text) []
told_by a b peers place bytes items before text one two three tells =
    subst (λ l. Tells a b (told_to peers place l) []) (one ∙ two ∙ ap (λ l. l ++ text) three) tells

pub brings_as : (P Q : Deed) (a b : Post) (old new : State) → ((said added : Texts) → P old said added new → Q old said added new) → Brings P a old b new →
    Brings Q a old b new
brings_as P Q a b old new each brings = record { said = brings.said; added = brings.added; tells = brings.tells; is = each brings.said brings.added brings.is }

pub brings_none : (a : Post) (s : State) → Brings Nothing a s a s
brings_none a s = record { said = []; added = []; tells = tells_none a; is = record { told = refl; lines = refl; left = refl } }

pub brings_only : (a b : Post) (old : State) (place : ℕ) (text : List ℕ) → Tells a b (told_to old.peers place text) [] → Brings (OnlyTold place text) a old b old
brings_only a b old place text tells =
    record { said = told_to old.peers place text; added = []; tells = tells; is = record { told = refl; lines = refl; left = refl } }

pub brings_then : (P Q : Deed) (a b c : Post) (old mid new : State) → Brings P a old b mid → Brings Q b mid c new → Brings (Then P Q) a old c new
brings_then P Q a b c old mid new one two = record {
  said = one.said ++ two.said;
  added = one.added ++ two.added;
  tells = tells_then a b c one.said two.said one.added two.added one.tells two.tells;
  is = record {
    mid = mid;
    said_first = one.said;
    said_then = two.said;
    added_first = one.added;
    added_then = two.added;
    one = one.is;
    two = two.is;
    told = refl;
    lines = refl;
  };
}

-- nothing is told before
pub brings_behind : (P : Deed) (a b c : Post) (old mid new : State) → Tells a b [] [] → mid ≡ old → Brings P b mid c new → Brings P a old c new
brings_behind P a b c old mid new quiet same brings =
    subst (λ (s : State). Brings P a s c new) same
    (record { said = brings.said; added = brings.added; tells = tells_then a b c [] brings.said [] brings.added quiet brings.tells; is = brings.is })

-- it is refused, and no text for people is told
pub plainly : (place : ℕ) (line : ReplyLine) (old new : State) (said added : Texts) → IsRefusal line → OnlyTold place (line_text line) old said added new → IsRefused place old said added new
plainly place line old new said added is only = record { line = line; is = is; hint = []; hinted = no_hint refl; only = only }

-- it is refused
pub refuses : (a b : Post) (old new : State) (place : ℕ) (line : ReplyLine) → IsRefusal line → Brings (OnlyTold place (line_text line)) a old b new → Brings (IsRefused place) a old b new
refuses a b old new place line is brings = brings_as (OnlyTold place (line_text line)) (IsRefused place) a b old new (λ said added only. plainly place line old new said added is only) brings

-- held lines are done behind others
goes_then : (a b c : State) (said added more_said more_added : Texts) → GoesOn a said added b → GoesOn b more_said more_added c →
    GoesOn a (said ++ more_said) (added ++ more_added) c
goes_then a b c said added more_said more_added rests two = two
goes_then a b c said added more_said more_added (does mid after s t u v place asked idle takes heeds later) two =
    subst (λ l. GoesOn a l ((t ++ v) ++ more_added) c) (sym (append_assoc s u more_said))
    (subst (λ l. GoesOn a (s ++ (u ++ more_said)) l c) (sym (append_assoc t v more_added))
    (does mid after s t (u ++ more_said) (v ++ more_added) place asked idle takes heeds (goes_then after b c u v more_said more_added later two)))

pub continues_by : (a b : Post) (old new : State) → Brings GoesOn a old b new → Continues a old b new
continues_by a b old new brings p first so = record {
  said = so.said ++ brings.said;
  added = so.added ++ brings.added;
  tells = tells_then p a b so.said brings.said so.added brings.added so.tells brings.tells;
  is = goes_then first old new so.said so.added brings.said brings.added so.is brings.is;
}

pub goes_nowhere : (a : Post) (s : State) → Brings GoesOn a s a s
goes_nowhere a s = record { said = []; added = []; tells = tells_none a; is = rests }

pub continued : (a b : Post) (old new : State) → Continues a old b new → Brings GoesOn a old b new
continued a b old new goes = goes a old (goes_nowhere a old)

-- nothing changes that is seen
pub continues_same : (a : Post) (old new : State) → new ≡ old → Continues a old a new
continues_same a old new same p first so = subst (λ (s : State). Brings GoesOn p first a s) (sym same) so
