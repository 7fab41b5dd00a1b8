use Rattle.std.proofs.Common.{length}
use Rattle.guest_core.proofs.held.+hold_of_op.Given as goal

abbrev pub decreases-hold_of_op : goal.decreases-hold_of_op
decreases-hold_of_op l = length l.holds.now
