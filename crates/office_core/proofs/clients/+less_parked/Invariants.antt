use Rattle.std.proofs.Common.{length}
use Rattle.office_core.proofs.clients.+less_parked.Given as goal

abbrev pub decreases-less_parked : goal.decreases-less_parked
decreases-less_parked l = length l.clients.now
