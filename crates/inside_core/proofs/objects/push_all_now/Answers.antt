use Rattle.std.proofs.Common.{◌<◌, length, arith}
use Rattle.inside_core.specs.Objects.{tally_now}
use Rattle.inside_core.proofs.StatusAdding.{flat_more}
use Rattle.inside_core.proofs.objects.push_all_now.Goals as goal

pub loop-tally-preserved : goal.loop-tally-preserved
loop-tally-preserved c =
    let inside : c.loop-tally.tally-index < length c.args.operations.now = omega arith in
    flat_more (tally_now c.args.current c.args.object.now) c.args.out.now.items c.loop-tally.out.items c.push_now.new.out.items c.args.operations.now c.loop-tally.tally-index c.tally-item.result c.tally-item.result inside c.tally-item.is c.loop-tally.invariant c.in_ok-push_now.ensures
