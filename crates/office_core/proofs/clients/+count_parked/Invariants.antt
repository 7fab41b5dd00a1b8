use Rattle.std.proofs.Common.{length}
use Rattle.office_core.proofs.clients.+count_parked.Given as goal

abbrev pub decreases-count_parked : goal.decreases-count_parked
decreases-count_parked l = length l.clients.now
