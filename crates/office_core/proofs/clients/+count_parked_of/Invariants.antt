use Rattle.std.proofs.Common.{length}
use Rattle.office_core.proofs.clients.+count_parked_of.Given as goal

abbrev pub decreases-count_parked_of : goal.decreases-count_parked_of
decreases-count_parked_of l = length l.clients.now
