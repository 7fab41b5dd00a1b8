use Rattle.std.proofs.Common.{◌+◌, ◌*◌}
use Rattle.body_read.proofs.condition.+conditions.Given as goal

abbrev pub decreases-condition : goal.decreases-condition
decreases-condition l = l.depth * 2 + 1

abbrev pub decreases-deeper : goal.decreases-deeper
decreases-deeper l = l.depth * 2
