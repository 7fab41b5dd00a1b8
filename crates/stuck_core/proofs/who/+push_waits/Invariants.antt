use Rattle.std.proofs.Common.{length}
use Rattle.stuck_core.proofs.who.+push_waits.Given as goal

abbrev pub decreases-push_waits : goal.decreases-push_waits
decreases-push_waits l = length l.reasons.now
