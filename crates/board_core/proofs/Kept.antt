-- The pins of the parts that an operation reads.
use Rattle.std.proofs.Common.{◌≡◌, ◌≢◌, ℕ, zero, suc, ◌+◌, inl, inr, ◌==◌, Bool, true, false, List, [], ◌∷◌, Some, refl, sym, ◌∙◌, ap, subst, arith, if◌then◌else◌}
use Rattle.std.specs.Prelude.{slice_get}
use Rattle.std.specs.Int.{bit_at}
use Rattle.std.proofs.lemmas.Bool.{eq-eqb}
use Rattle.std.proofs.lemmas.Bool.Decides.{eqb_tells}
use Rattle.decl_core.specs.declared.object.Operation.{Operation}
use Rattle.decl_core.specs.Bodies.{body_of}
use Rattle.decl_core.specs.Footprint.{reads_of}
use Rattle.decl_core.specs.Touched.{Reads}
use Rattle.decl_core.proofs.DeclTouched.{reads_bits}
use Rattle.device_core.specs.declared.hand.Stamp.{Stamp}
use Rattle.page_core.specs.PartPins.{PartPin, put_if, pins_in, pin_at}
use Rattle.page_core.specs.ObjectCalls.{read_pins}

-- a pin of this part in front is the one that is found
found_here : (b : Bool) (pin : PartPin) (pins : List PartPin) (q : ℕ) → b ≡ true → pin.part ≡ q → pin_at (put_if b pin pins) q ≡ Some pin.pages
found_here true pin pins q set same = ap (λ t. if t then Some pin.pages else pin_at pins q) (eq-eqb pin.part q same)
found_here false pin pins q set same = absurd cc

-- one of another part is passed over
found_behind : (b : Bool) (pin : PartPin) (pins : List PartPin) (q : ℕ) → pin.part ≢ q → pin_at (put_if b pin pins) q ≡ pin_at pins q
found_behind true pin pins q other = elim (eqb_tells pin.part q) [
  | inl x ↦ absurd (other x.1)
  | inr x ↦ ap (λ t. if t then Some pin.pages else pin_at pins q) x.0
]
found_behind false pin pins q other = refl

kept_from : (parts p : ℕ) (pins : List (List Stamp)) (k q : ℕ) → q ≡ p + k → bit_at parts q ≡ 1 → pin_at (pins_in parts p pins) q ≡ slice_get pins k
kept_from parts p [] k q is set = refl
kept_from parts p (pin ∷ pins) zero q is set =
    let same : p ≡ q = omega (arith, is) in
    found_here (bit_at parts p == 1) _ (pins_in parts (p + 1) pins) q (eq-eqb (bit_at parts p) 1 (subst (λ x. bit_at parts x ≡ 1) (sym same) set)) same
kept_from parts p (pin ∷ pins) (suc k) q is set =
    found_behind (bit_at parts p == 1) _ (pins_in parts (p + 1) pins) q (λ same. absurd (omega (arith, is, same))) ∙ kept_from parts (p + 1) pins k q (omega (arith, is)) set

-- of a part that an operation reads the pin is there
pub kept_at : (operation : Operation) (pins : List (List Stamp)) (p : ℕ) → Reads (body_of operation).statements p → pin_at (read_pins operation pins) p ≡ slice_get pins p
kept_at operation pins p reads = kept_from (reads_of (body_of operation)) 0 pins p p (omega arith) ((reads_bits (body_of operation).statements (reads_of (body_of operation)) refl p).1 reads)
