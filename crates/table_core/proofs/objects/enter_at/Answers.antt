use Rattle.table_core.proofs.Placing.{at_place, entered}
use Rattle.table_core.proofs.objects.enter_at.Goals as goal

pub returns-in_ok-entered-in-Some : goal.returns-in_ok-entered-in-Some
returns-in_ok-entered-in-Some c =
    entered c.args.objects.now.items c.args.at c.in-Some.object.now c.enter.new.self c.args.name.now c.args.who.second c.in_ok-entered-in-Some.entered
    c.clear.new.self.items c.enter.new.lines.items
    (at_place c.args.objects.now.items c.args.at c.in-Some.object.now c.in-Some.ensures.item.3.0 c.in-Some.ensures.value) c.clear.ensures.items
    c.in_ok-entered-in-Some.ensures
