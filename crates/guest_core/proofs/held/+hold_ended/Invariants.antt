use Rattle.std.proofs.Common.{length}
use Rattle.guest_core.proofs.held.+hold_ended.Given as goal

abbrev pub decreases-hold_ended : goal.decreases-hold_ended
decreases-hold_ended l = length l.holds.now
