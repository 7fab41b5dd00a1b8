-- How many pages pins have that stand one behind the other.
use Rattle.std.proofs.Common.{◌≡◌, ℕ, zero, suc, ◌+◌, ◌<◌, ◌≤◌, ◌==◌, Bool, true, false, if◌then◌else◌, List, [], ◌∷◌, length, take, drop, Option, Some, refl, subst, arith, length-take, length-drop}
use Rattle.device_core.specs.declared.hand.Stamp.{Stamp}
use Rattle.page_core.specs.Cut.{together}
use Rattle.page_core.specs.PartPins.{pin_at, pins_by}
use Rattle.page_core.proofs.ListBytes.{some_same}
use Rattle.page_core.specs.CallPins.{AreSized}
use Rattle.run_core.specs.CallPlanned.{AreShort}

pub sized_by : (from : ℕ) (counts : List ℕ) (stamps : List Stamp) → together counts ≡ length stamps → AreShort counts → AreSized (pins_by from counts stamps)
sized_by from [] stamps is short = λ p pages has. absurd cc
sized_by from (zero ∷ counts) stamps is short = sized_by (from + 1) counts stamps (omega (arith, is)) (λ k count has. short (suc k) count has)
sized_by from (suc n ∷ counts) stamps is short = λ p pages has. choice (from == p) (take (suc n) stamps) pages (pin_at (pins_by (from + 1) counts (drop (suc n) stamps)) p)
    (omega (arith, is, length-take (suc n) stamps), omega (arith, short zero (suc n) refl, length-take (suc n) stamps))
    (λ h. sized_by (from + 1) counts (drop (suc n) stamps) (omega (arith, is, length-drop (suc n) stamps)) (λ k count has. short (suc k) count has) p pages h) has where
      choice : (b : Bool) (front pages : List Stamp) (rest : Option (List Stamp)) → (0 < length front) × (length front ≤ 8) → (rest ≡ Some pages → (0 < length pages) × (length pages ≤ 8)) → (if b then Some front else rest) ≡ Some pages → (0 < length pages) × (length pages ≤ 8)
      choice true front pages rest good behind is = subst (λ (l : List Stamp). (0 < length l) × (length l ≤ 8)) (some_same is) good
      choice false front pages rest good behind is = behind is
