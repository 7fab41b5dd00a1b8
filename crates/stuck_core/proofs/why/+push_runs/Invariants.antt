use Rattle.std.proofs.Common.{length}
use Rattle.stuck_core.proofs.why.+push_runs.Given as goal

abbrev pub decreases-push_runs : goal.decreases-push_runs
decreases-push_runs l = length l.runs.now
