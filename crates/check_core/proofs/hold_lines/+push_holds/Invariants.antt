use Rattle.std.proofs.Common.{length}
use Rattle.check_core.proofs.hold_lines.+push_holds.Given as goal

abbrev pub decreases-push_holds : goal.decreases-push_holds
decreases-push_holds l = length l.holds.now
