use Rattle.table_core.proofs.Placing.{at_place, left_it}
use Rattle.table_core.proofs.objects.leave_at.Goals as goal

pub returns-in-Some : goal.returns-in-Some
returns-in-Some c =
    left_it c.args.objects.now.items c.args.at c.args.session c.args.second c.in-Some.object.now c.leave-was_here.new.self c.leave-was_here.result
    (at_place c.args.objects.now.items c.args.at c.in-Some.object.now c.in-Some.ensures.item.3.0 c.in-Some.ensures.value)
    c.leave-was_here.ensures.guests c.leave-was_here.ensures.left
