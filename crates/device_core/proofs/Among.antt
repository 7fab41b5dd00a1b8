-- Reads that are kept, where one of them changes.
use Rattle.std.proofs.Common.{◌≡◌, ℕ, zero, suc, List, [], ◌∷◌, ◌++◌, ◌≤◌, length, take, refl, sym, ap, ◌∙◌, subst, arith, inl, inr}
use Rattle.std.proofs.lemmas.Bool.{cases_eq}
use Rattle.std.specs.Prelude.{◌⊎◌, Some, slice_get, slice_set}
use Rattle.device_core.specs.declared.hand.Stamp.{Stamp}
use Rattle.device_core.specs.declared.reads.KeptRead.{KeptRead}
use Rattle.device_core.specs.Reads.{IsAmong}

-- what stands where one was set is that one
pub set_here : (reads : List KeptRead) (p : ℕ) (x y : KeptRead) → slice_get (slice_set reads p x) p ≡ Some y → y ≡ x
set_here [] p x y at = cc
set_here (z ∷ reads) zero x y at = cc
set_here (z ∷ reads) (suc p) x y at = set_here reads p x y at

pub set_there : (reads : List KeptRead) (p q : ℕ) (x : KeptRead) → (q ≡ p → ⊥) → slice_get (slice_set reads p x) q ≡ slice_get reads q
set_there [] p q x other = refl
set_there (y ∷ reads) zero zero x other = absurd (other refl)
set_there (y ∷ reads) zero (suc q) x other = refl
set_there (y ∷ reads) (suc p) zero x other = refl
set_there (y ∷ reads) (suc p) (suc q) x other = set_there reads p q x (λ e. other (ap suc e))

-- what is among reads of which one was set is that one, or was among them before
pub among_set : (reads : List KeptRead) (p : ℕ) (x : KeptRead) (s : Stamp) (k : ℕ) (b : List ℕ) → IsAmong (slice_set reads p x) s k b
    → ((x.of ≡ Some (s, k)) × (x.bytes.items ≡ b)) ⊎ IsAmong reads s k b
among_set reads p x s k b is = elim (cases_eq is.place p) [
  | inl here ↦
      let same : is.kept ≡ x = set_here reads p x is.kept (subst (λ q. slice_get (slice_set reads p x) q ≡ Some is.kept) here is.there) in
      inl (subst (λ (r : KeptRead). r.of ≡ Some (s, k)) same is.of, subst (λ (r : KeptRead). r.bytes.items ≡ b) same is.same)
  | inr other ↦ inr (record { place = is.place; kept = is.kept; there = sym (set_there reads p is.place x other) ∙ is.there; of = is.of; same = is.same })
]

front : (n : ℕ) (reads more : List KeptRead) (p : ℕ) (x : KeptRead) → n ≤ length reads → slice_get (take n (reads ++ more)) p ≡ Some x → slice_get reads p ≡ Some x
front zero reads more p x few at = cc
front (suc n) [] more p x few at = absurd (omega arith)
front (suc n) (y ∷ reads) more zero x few at = at
front (suc n) (y ∷ reads) more (suc p) x few at = front n reads more p x (omega arith) at

-- what is among the first of some reads and others is among these, where they are so many
pub among_front : (n : ℕ) (reads more : List KeptRead) (s : Stamp) (k : ℕ) (b : List ℕ) → n ≤ length reads → IsAmong (take n (reads ++ more)) s k b → IsAmong reads s k b
among_front n reads more s k b few is = record { place = is.place; kept = is.kept; there = front n reads more is.place is.kept few is.there; of = is.of; same = is.same }
