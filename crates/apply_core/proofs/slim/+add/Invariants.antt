use Rattle.std.proofs.Common.{length}
use Rattle.apply_core.proofs.slim.+add.Given as goal

abbrev pub decreases-add : goal.decreases-add
decreases-add l = length l.all.now
