use Rattle.std.proofs.Common.{◌≡◌, ◌≢◌, ◌<◌, ℕ, Some}
use Rattle.std.specs.Prelude.{slice_get}
use Rattle.client_core.specs.declared.holder.Holder.{Holder}
use Rattle.client_core.specs.declared.holder.WhenDue.TheVariants.{Now}
use Rattle.client_core.proofs.holder.first_now.Given as goal

abbrev pub invariant-loop-place : goal.invariant-loop-place
invariant-loop-place l = (k : ℕ) (g : Holder) → k < l.place → slice_get l.rows k ≡ Some g → g.when ≢ Now
