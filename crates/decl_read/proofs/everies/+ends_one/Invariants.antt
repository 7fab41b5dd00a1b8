use Rattle.std.proofs.Common.{length}
use Rattle.decl_read.proofs.everies.+ends_one.Given as goal

abbrev pub decreases-ends_one : goal.decreases-ends_one
decreases-ends_one l = length l.holds.now
