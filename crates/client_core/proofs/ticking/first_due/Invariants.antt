use Rattle.std.proofs.Common.{◌≡◌, ◌<◌, ℕ, Some}
use Rattle.std.specs.Prelude.{slice_get}
use Rattle.client_core.specs.declared.ticking.Ticking.{Ticking}
use Rattle.client_core.proofs.ticking.first_due.Given as goal

abbrev pub invariant-loop-place : goal.invariant-loop-place
invariant-loop-place l = (k : ℕ) (t : Ticking) → k < l.place → slice_get l.ticking k ≡ Some t → l.second < t.at
