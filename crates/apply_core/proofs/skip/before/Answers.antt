use Rattle.std.proofs.Common.{arith}
use Rattle.apply_core.proofs.Skips.{before_end}
use Rattle.apply_core.proofs.skip.before.Goals as goal

pub returns : goal.returns
returns c = λ front parts. before_end c.args.bytes.now c.args.rest.now front c.cut.result.0.now c.cut.result.1.now c.cut.ensures.whole (omega arith) parts
