use Rattle.table_core.proofs.Placing.{at_place, called}
use Rattle.table_core.proofs.objects.call_at.Goals as goal

pub returns-in_ok-taken-in-Some : goal.returns-in_ok-taken-in-Some
returns-in_ok-taken-in-Some c =
    called c.args.objects.now.items c.args.at c.args.made.session c.args.made.operation c.args.arguments.items c.in-Some.object.now c.call.new.self
    c.in_ok-taken-in-Some.taken c.clear.new.self.items c.call.new.lines.items
    (at_place c.args.objects.now.items c.args.at c.in-Some.object.now c.in-Some.ensures.item.3.0 c.in-Some.ensures.value) c.clear.ensures.items
    c.in_ok-taken-in-Some.ensures
