use Rattle.std.proofs.Common.{length}
use Rattle.keep_core.proofs.opening.+are_same_lists.Given as goal

abbrev pub decreases-are_same_lists : goal.decreases-are_same_lists
decreases-are_same_lists l = length l.a.now
