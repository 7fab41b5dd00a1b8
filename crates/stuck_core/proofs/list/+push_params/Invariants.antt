use Rattle.std.proofs.Common.{length}
use Rattle.stuck_core.proofs.list.+push_params.Given as goal

abbrev pub decreases-push_params : goal.decreases-push_params
decreases-push_params l = length l.params.now
