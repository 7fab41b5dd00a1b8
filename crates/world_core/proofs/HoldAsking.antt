-- What the lines that ask are answered.
use Rattle.std.proofs.Common.{◌≡◌, ℕ, ◌+◌, ◌≤◌, List, [], ◌∷◌, ◌++◌, length, Some, sym, ap, ◌∙◌, take, map, append_assoc, arith}
use Rattle.std.specs.Prelude.{slice_get, sum}
use Rattle.std.specs.List.{flat_map}
use Rattle.std.proofs.lemmas.List.{append-nil}
use Rattle.std.proofs.lemmas.Grind.{flat_map-append}
use Rattle.value_core.proofs.Listing.{list_next}
use Rattle.decl_core.specs.declared.object.Object.{Object}
use Rattle.decl_core.specs.ObjectForm.{ObjectForm}
use Rattle.decl_core.specs.ObjectMap.{object_of}
use Rattle.board_core.specs.Board.{Board}
use Rattle.stuck_core.specs.Who.{Refused, who_line, waits_line}
use Rattle.world_core.specs.Asked.{who}
use Rattle.world_core.specs.Told.{AreWaitLines}
use Rattle.decl_core.specs.HoldForm.{HoldForm}
use Rattle.guest_core.specs.Held.{HeldCall}
use Rattle.guest_core.proofs.Ending.{take_whole}
use Rattle.check_core.specs.HeldTold.{holds_line}
use Rattle.world_core.specs.HoldAsked.{held_who_text, IsHeldTold, who_holds}

-- the lines of so many of the calls that are held
abbrev pub AreTold : ObjectForm → List HoldForm → List HeldCall → ℕ → List ℕ → List ℕ → Type 0
AreTold o holds held place old out = out ≡ old ++ flat_map (holds_line o holds) (take place held)

pub told_none : (o : ObjectForm) (holds : List HoldForm) (held : List HeldCall) (old : List ℕ) → AreTold o holds held 0 old old
told_none o holds held old = sym (append-nil old)

pub told_more : (o : ObjectForm) (holds : List HoldForm) (held : List HeldCall) (place : ℕ) (h : HeldCall) (old before out : List ℕ) → AreTold o holds held place old before → slice_get held place ≡ Some h → out ≡ before ++ holds_line o holds h →
    AreTold o holds held (place + 1) old out
told_more o holds held place h old before out told there grown =
    let f : HeldCall → List ℕ = holds_line o holds in
    grown ∙ ap (λ xs. xs ++ f h) told ∙ append_assoc old (flat_map f (take place held)) (f h)
    ∙ ap (λ xs. old ++ xs) (ap (λ xs. flat_map f (take place held) ++ xs) (sym (append-nil (f h))) ∙ sym (flat_map-append f (take place held) (h ∷ [])) ∙ ap (flat_map f) (list_next held place h there))

pub told_all : (o : ObjectForm) (holds : List HoldForm) (held : List HeldCall) (place : ℕ) (old out : List ℕ) → length held ≤ place → AreTold o holds held place old out → out ≡ old ++ flat_map (holds_line o holds) held
told_all o holds held place old out past told = told ∙ ap (λ hs. old ++ flat_map (holds_line o holds) hs) (take_whole held place past)

-- the answer to `who`
pub who_made : (b : Board) (holds : List HoldForm) (held given : List HeldCall) (object : Object) (count number len : ℕ) (text lent old first second last : List ℕ) → AreWaitLines b count text → object ≡ b.object → given ≡ held → len ≡ length held → number ≡ count + len → lent ≡ text →
    first ≡ old ++ who_line number → second ≡ first ++ lent → last ≡ second ++ flat_map (holds_line (object_of object) holds) given → (said : List ℕ) × (last ≡ old ++ said) × IsHeldTold holds held b who said
who_made b holds held given object count number len text lent old first second last waits same same_held long many is a b' c =
    let lines : List ℕ = flat_map (λ (r : Refused). flat_map (waits_line (object_of b.object) r.call) r.whys) waits.all in
    let total : ℕ = sum (map (λ (r : Refused). length r.whys) waits.all) + length held in
    let all : number ≡ total = omega (arith, many, long, waits.many) in
    let head : first ≡ old ++ who_line total = a ∙ ap (λ n. old ++ who_line n) all in
    let body : second ≡ old ++ (who_line total ++ lines) =
    b' ∙ ap (λ xs. xs ++ lent) head ∙ append_assoc old (who_line total) lent ∙ ap (λ xs. old ++ (who_line total ++ xs)) (is ∙ waits.said) in
    let end = ap (λ (x : Object). second ++ flat_map (holds_line (object_of x) holds) given) same ∙ ap (λ hs. second ++ flat_map (holds_line (object_of b.object) holds) hs) same_held in
    let tail : List ℕ = flat_map (holds_line (object_of b.object) holds) held in (
      held_who_text (object_of b.object) holds waits.all held,
      c ∙ end ∙ ap (λ xs. xs ++ tail) body ∙ append_assoc old (who_line total ++ lines) tail,
      who_holds waits.all waits.are,
    )
