use Rattle.std.proofs.Common.{◌≡◌, ◌<◌, ℕ}
use Rattle.std.specs.Prelude.{false}
use Rattle.client_core.specs.ToldInside.{calls_at}
use Rattle.inside_core.specs.Adds.{crowd_of}
use Rattle.inside_core.proofs.longest.find_caller.Given as goal

abbrev pub invariant-loop-place : goal.invariant-loop-place
invariant-loop-place l = (place : ℕ) → place < l.place → calls_at (crowd_of l.clients l.whom) l.session l.told place ≡ false
