use Rattle.std.proofs.Common.{arith}
use Rattle.decl_core.specs.ObjectMap.{object_of}
use Rattle.decl_core.specs.Rest.{NodeSeparates}
use Rattle.decl_core.proofs.Rest.{row_rest}
use Rattle.decl_core.proofs.Certified.{operations_counted}
use Rattle.decl_core.proofs.uncalled.checked_row.Goals as goal

pub returns : goal.returns
returns c =
    let o = object_of c.args.object.now in
    row_rest o (NodeSeparates o) c.args.first c.args.first c.args.first c.loop-second.second (omega (arith, operations_counted c.args.object.now))
    c.args.entries.now c.loop-second.rest.now c.loop-second.invariant
