use Rattle.std.proofs.Common.{◌≡◌, ◌<◌, ℕ, Some}
use Rattle.std.specs.Prelude.{◌≢◌, slice_get}
use Rattle.client_core.specs.declared.holder.Holder.{Holder}
use Rattle.inside_core.proofs.held.away_in.Given as goal

abbrev pub invariant-loop-place : goal.invariant-loop-place
invariant-loop-place l = (k : ℕ) (g : Holder) → k < l.place → slice_get l.gone k ≡ Some g → g.session ≢ l.session
