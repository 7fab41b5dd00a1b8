use Rattle.std.proofs.Common.{length}
use Rattle.check_core.proofs.hold_lines.+push_everies.Given as goal

abbrev pub decreases-push_everies : goal.decreases-push_everies
decreases-push_everies l = length l.everies.now
