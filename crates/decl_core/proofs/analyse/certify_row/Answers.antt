use Rattle.std.proofs.Common.{arith}
use Rattle.decl_core.specs.ObjectMap.{object_of}
use Rattle.decl_core.proofs.Certified.{certified_row, operations_counted}
use Rattle.decl_core.proofs.analyse.certify_row.Goals as goal

pub returns : goal.returns
returns c =
    certified_row (object_of c.args.object.now) c.args.first c.loop-second.second (omega (arith, operations_counted c.args.object.now))
    c.loop-second.entries.items c.loop-second.invariant
