use Rattle.std.specs.Prelude.{◌≡◌, ℕ, ◌<◌}
use Rattle.std.specs.Int.{bit_at}
use Rattle.apply_core.specs.Held.{HoldsItsKind}
use Rattle.apply_core.proofs.fits.parts_fit.Given as goal

abbrev pub invariant-loop-part : goal.invariant-loop-part
invariant-loop-part l = (p : ℕ) → p < l.part → bit_at l.read p ≡ 1 → HoldsItsKind l.parts l.operation.kinds.items p
