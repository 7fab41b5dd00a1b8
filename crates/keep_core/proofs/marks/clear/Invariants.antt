use Rattle.std.proofs.Common.{◌≡◌, ◌<◌, ℕ, length}
use Rattle.std.specs.Prelude.{slice_get, Some, false}
use Rattle.keep_core.proofs.marks.clear.Given as goal

abbrev pub invariant-loop-k : goal.invariant-loop-k
invariant-loop-k l = (length l.row ≡ length l.fn.row) × ((k : ℕ) → k < l.k → slice_get l.row k ≡ Some false)
