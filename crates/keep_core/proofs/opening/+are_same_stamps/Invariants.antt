use Rattle.std.proofs.Common.{length}
use Rattle.keep_core.proofs.opening.+are_same_stamps.Given as goal

abbrev pub decreases-are_same_stamps : goal.decreases-are_same_stamps
decreases-are_same_stamps l = length l.a.now
