use Rattle.table_core.proofs.Placing.{at_place, cancelled}
use Rattle.table_core.proofs.objects.cancel_at.Goals as goal

pub returns-in_ok-told-in-Some : goal.returns-in_ok-told-in-Some
returns-in_ok-told-in-Some c =
    cancelled c.args.objects.now.items c.args.at c.args.session c.in-Some.object.now c.cancel.new.self c.in_ok-told-in-Some.told c.clear.new.self.items
    c.cancel.new.lines.items
    (at_place c.args.objects.now.items c.args.at c.in-Some.object.now c.in-Some.ensures.item.3.0 c.in-Some.ensures.value) c.clear.ensures.items
    c.in_ok-told-in-Some.ensures
