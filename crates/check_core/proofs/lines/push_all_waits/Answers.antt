use Rattle.std.proofs.Common.{◌<◌, rules}
use Rattle.decl_core.specs.ObjectMap.{object_of}
use Rattle.check_core.proofs.Runs.{one_waits}
use Rattle.check_core.proofs.lines.push_all_waits.Goals as goal

pub loop-op-preserved : goal.loop-op-preserved
loop-op-preserved c =
    let lt : c.loop-op.op < c.args.count = search rules in
    one_waits (object_of c.args.object.now) c.loop-op.op c.args.count c.loop-op.out.items c.push_waits.new.out.items _ lt c.in_ok-push_waits.ensures c.loop-op.invariant
