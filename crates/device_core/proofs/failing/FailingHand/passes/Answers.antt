use Rattle.std.proofs.Common.{arith}
use Rattle.device_core.proofs.Counting.{spares_on}
use Rattle.device_core.proofs.failing.FailingHand.passes.Goals as goal

pub returns-clause-spares : goal.returns-clause-spares
returns-clause-spares g c = λ n. spares_on g.C.Choice.chosen c.args.self.now.choice c.args.self.now.left _ n (omega arith)
