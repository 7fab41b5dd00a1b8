use Rattle.std.proofs.Common.{length}
use Rattle.inside_core.proofs.look.+left_by.Given as goal

abbrev pub decreases-left_by : goal.decreases-left_by
decreases-left_by l = length l.ends.now
