-- Calls counted down to the one that is failed.
use Rattle.std.proofs.Common.{◌≡◌, ℕ, ◌+◌, ◌-◌, subst, arith}
use Rattle.device_core.specs.Wrapped.{Spares}

-- after one call one less is spared
pub spares_on : {C : Type 0} (chosen : C → ℕ → Type 0) (choice : C) (number after calls : ℕ) → after ≡ number - 1 → Spares chosen choice number (calls + 1) → Spares chosen choice after calls
spares_on chosen choice number after calls down spares = record {
  each = λ k low is. spares.each (k + 1) (omega (arith, low)) (subst (λ n. chosen choice n) (omega (arith, down)) is);
}
