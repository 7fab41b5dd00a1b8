use Rattle.std.proofs.Common.{◌≡◌, ◌++◌}
use Rattle.stuck_core.specs.ReasonViews.{whys_of}
use Rattle.world_core.specs.Told.{running_there}
use Rattle.world_core.proofs.Running.{running_from}
use Rattle.world_core.proofs.answer.runs_of.Given as goal

abbrev pub invariant-loop-place : goal.invariant-loop-place
invariant-loop-place l = l.runs.items ++ running_from l.desk (whys_of l.reasons) l.place ≡ running_there l.desk (whys_of l.reasons)
