use Rattle.std.proofs.Common.{length}
use Rattle.live_core.proofs.data.+are_contents.Given as goal

abbrev pub decreases-are_contents : goal.decreases-are_contents
decreases-are_contents l = length l.all.now
