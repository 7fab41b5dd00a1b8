-- What is called for sessions that are gone, one after the other.
use Rattle.std.proofs.Common.{◌≡◌, ℕ, ◌+◌, ◌≤◌, List, [], ◌∷◌, ◌++◌, length, Some, refl, sym, ap, subst, ◌∙◌, take, append_assoc}
use Rattle.std.specs.Prelude.{slice_get}
use Rattle.std.proofs.lemmas.List.{append-nil}
use Rattle.value_core.proofs.Listing.{list_next}
use Rattle.decl_core.specs.HoldForm.{HoldForm}
use Rattle.world_core.specs.Scene.{Scene}
use Rattle.guest_core.specs.Held.{HeldCall}
use Rattle.guest_core.proofs.Ending.{take_whole}
use Rattle.world_core.specs.HoldDoes.{GivesBack, GiveBack, nobody, and_for}

-- so many of these sessions have been given back for, which added these lines
abbrev pub AreGiven : List HoldForm → List HeldCall → Scene → List ℕ → ℕ → List ℕ → List ℕ → Scene → Type 0
AreGiven holds held first gone place old out now = (text : List ℕ) × (out ≡ old ++ text) × GiveBack holds held first (take place gone) text now

pub given_none : (holds : List HoldForm) (held : List HeldCall) (first : Scene) (gone old : List ℕ) → AreGiven holds held first gone 0 old old first
given_none holds held first gone old = ([], sym (append-nil old), nobody)

pub given_more : (holds : List HoldForm) (held : List HeldCall) (first mid last : Scene) (gone : List ℕ) (place session : ℕ) (old before out more : List ℕ) → AreGiven holds held first gone place old before mid → slice_get gone place ≡ Some session
    → out ≡ before ++ more → GivesBack holds held session mid more last → AreGiven holds held first gone (place + 1) old out last
given_more holds held first mid last gone place session old before out more (text, made, given) there grown one = (
  text ++ more,
  grown ∙ ap (λ xs. xs ++ more) made ∙ append_assoc old text more,
  subst (λ ss. GiveBack holds held first ss (text ++ more) last) (list_next gone place session there) (and_for session given one),
)

pub given_all : (holds : List HoldForm) (held : List HeldCall) (first now : Scene) (gone : List ℕ) (place : ℕ) (old out : List ℕ) → length gone ≤ place → AreGiven holds held first gone place old out now
    → (text : List ℕ) × (out ≡ old ++ text) × GiveBack holds held first gone text now
given_all holds held first now gone place old out whole (text, made, given) = (text, made, subst (λ ss. GiveBack holds held first ss text now) (take_whole gone place whole) given)
