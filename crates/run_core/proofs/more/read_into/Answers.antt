use Rattle.std.proofs.Common.{◌+◌, ◌-◌, arith}
use Rattle.run_core.proofs.Lists.{placed}
use Rattle.run_core.proofs.more.read_into.Goals as goal

pub returns-in-Ok-clause-placed : goal.returns-in-Ok-clause-placed
returns-in-Ok-clause-placed g c =
    let at = c.args.at in
    let len = c.args.stamp.now.len in
    placed c.args.bytes.now c.read.new.into at (at + len - at) len c.requires (omega arith) (omega (arith, c.read.auto.into, c.requires))

pub returns-in-Err-clause-placed : goal.returns-in-Err-clause-placed
returns-in-Err-clause-placed g c =
    let at = c.args.at in
    let len = c.args.stamp.now.len in
    placed c.args.bytes.now c.read.new.into at (at + len - at) len c.requires (omega arith) (omega (arith, c.read.auto.into, c.requires))
