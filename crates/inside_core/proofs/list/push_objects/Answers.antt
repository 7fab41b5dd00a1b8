use Rattle.std.proofs.Common.{◌<◌, length, arith}
use Rattle.inside_core.proofs.Listing.{names_more}
use Rattle.inside_core.proofs.list.push_objects.Goals as goal

pub loop-object-preserved : goal.loop-object-preserved
loop-object-preserved c =
    let inside : c.loop-object.object-index < length c.args.objects.now = omega arith in
    names_more c.args.out.now.items c.loop-object.out.items c.push_name.new.out.items c.args.objects.now c.loop-object.object-index c.object-item.result
    c.object-item.result inside c.object-item.is c.loop-object.invariant c.in_ok-push_name.ensures
