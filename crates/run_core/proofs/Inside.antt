-- A run has new page lists of parts that its operation writes alone.
use Rattle.std.proofs.Common.{◌≡◌, ℕ, zero, suc, ◌+◌, ◌==◌, Bool, true, false, if◌then◌else◌, List, [], ◌∷◌, take, drop, Option, Some, None, refl, ap, ◌∙◌, subst}
use Rattle.std.specs.Prelude.{◌≢◌}
use Rattle.std.proofs.lemmas.Bool.{eqb-true}
use Rattle.decl_core.specs.Form.{Statements}
use Rattle.decl_core.specs.Touched.{Writes}
use Rattle.device_core.specs.declared.hand.Stamp.{Stamp}
use Rattle.page_core.specs.declared.plan.PageWrite.{PageWrite}
use Rattle.page_core.specs.Laws.{PartRenewal}
use Rattle.page_core.specs.PartPins.{PartPin, pin_at, pins_by}
use Rattle.run_core.specs.declared.judge.Change.{Change}
use Rattle.run_core.specs.Written.{WritesInOrder, parts_changed}
use Rattle.run_core.specs.CallPlanned.{AreRenewals, no_part, same, renewed, IsPlanned}

-- there is none
pub none_has : (pins : List PartPin) (p : ℕ) → pins ≡ [] → pin_at pins p ≢ None → ⊥
none_has pins p none some = some (ap (λ (l : List PartPin). pin_at l p) none)

-- which parts have a list hangs on the counts alone
same_parts : (from : ℕ) (counts : List ℕ) (row other : List Stamp) (p : ℕ) → pin_at (pins_by from counts row) p ≡ None → pin_at (pins_by from counts other) p ≡ None
same_parts from [] row other p none = refl
same_parts from (zero ∷ counts) row other p none = same_parts (from + 1) counts row other p none
same_parts from (suc n ∷ counts) row other p none = choice (from == p) (take (suc n) row) (take (suc n) other) (pin_at (pins_by (from + 1) counts (drop (suc n) row)) p) (pin_at (pins_by (from + 1) counts (drop (suc n) other)) p) (λ h. same_parts (from + 1) counts (drop (suc n) row) (drop (suc n) other) p h) none where
  choice : (b : Bool) (pages others : List Stamp) (rest more : Option (List Stamp)) → (rest ≡ None → more ≡ None) → (if b then Some pages else rest) ≡ None → (if b then Some others else more) ≡ None
  choice true pages others rest more behind is = absurd cc
  choice false pages others rest more behind is = behind is

pub still_has : (counts counts1 : List ℕ) (row row1 : List Stamp) (p : ℕ) → counts1 ≡ counts → pin_at (pins_by 0 counts1 row1) p ≢ None → pin_at (pins_by 0 counts row) p ≢ None
still_has counts counts1 row row1 p is some none = some (ap (λ (cs : List ℕ). pin_at (pins_by 0 cs row1) p) is ∙ same_parts 0 counts row row1 p none)

-- the parts of a plan are written
planned_writes : (all : Statements) (pins : List PartPin) (read : List (List ℕ)) (p from low : ℕ) (changes : List Change) (parts : List PartRenewal) (counts : List ℕ) (row : List Stamp) → AreRenewals pins read from changes parts counts → WritesInOrder all low (parts_changed changes)
    → pin_at (pins_by from counts row) p ≢ None → Writes all p
planned_writes all pins read p from low changes parts counts row no_part order some = absurd (some refl)
planned_writes all pins read p from low changes parts counts row (same changes1 parts1 rest r) order some = planned_writes all pins read p (from + 1) low changes parts rest row r order some
planned_writes all pins read p from low changes parts counts row (renewed change part changes1 parts1 rest count at is counted r) order some =
    with_count count some (λ others has. planned_writes all pins read p (from + 1) (change.part + 1) changes1 parts1 rest others r order.2 has) where
      choice : (n : ℕ) (b : Bool) → (from == p) ≡ b → ((if b then Some (take (suc n) row) else pin_at (pins_by (from + 1) rest (drop (suc n) row)) p) ≢ None) → ((others : List Stamp) → pin_at (pins_by (from + 1) rest others) p ≢ None → Writes all p) → Writes all p
      choice n true test has behind = subst (Writes all) (at ∙ eqb-true from p test) order.1
      choice n false test has behind = behind (drop (suc n) row) has

      with_count : (n : ℕ) → pin_at (pins_by from (n ∷ rest) row) p ≢ None → ((others : List Stamp) → pin_at (pins_by (from + 1) rest others) p ≢ None → Writes all p) → Writes all p
      with_count zero has behind = behind row has
      with_count (suc n) has behind = choice n (from == p) refl has behind

pub plan_writes : (all : Statements) (pins : List PartPin) (read : List (List ℕ)) (changes : List Change) (counts : List ℕ) (stamps row : List Stamp) (writes : List PageWrite) (gone : List Stamp) (p : ℕ) → IsPlanned pins read changes counts stamps writes gone → WritesInOrder all 0 (parts_changed changes)
    → pin_at (pins_by 0 counts row) p ≢ None → Writes all p
plan_writes all pins read changes counts stamps row writes gone p plan order some = planned_writes all pins read p 0 0 changes plan.parts counts row plan.renewals order some
