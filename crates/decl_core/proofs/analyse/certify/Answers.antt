use Rattle.std.proofs.Common.{arith}
use Rattle.decl_core.specs.ObjectMap.{object_of}
use Rattle.decl_core.proofs.Certified.{certified_first, certified_exclusive, operations_counted}
use Rattle.decl_core.proofs.analyse.certify.Goals as goal

pub returns : goal.returns
returns c =
    let o = object_of c.args.object.now in
    let i = c.loop-first.first in
    let es = c.loop-first.entries.items in (
      certified_exclusive o i i (omega (arith, operations_counted c.args.object.now)) es c.loop-first.invariant,
      certified_first o i i (omega (arith, operations_counted c.args.object.now)) es c.loop-first.invariant,
    )
