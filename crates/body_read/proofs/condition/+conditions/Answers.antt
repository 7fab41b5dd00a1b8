use Rattle.std.proofs.Common.{arith}
use Rattle.body_read.proofs.StatementSteps.{deeper_none}
use Rattle.body_read.proofs.condition.+conditions.Goals as goal

pub deeper-returns-then-depth-eq0 : goal.deeper-returns-then-depth-eq0
deeper-returns-then-depth-eq0 t c = deeper_none _ _ _ _ (omega arith)
