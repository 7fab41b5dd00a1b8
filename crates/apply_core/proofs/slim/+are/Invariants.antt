use Rattle.std.proofs.Common.{length}
use Rattle.apply_core.proofs.slim.+are.Given as goal

abbrev pub decreases-are : goal.decreases-are
decreases-are l = length l.slims.now
