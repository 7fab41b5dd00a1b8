use Rattle.table_core.proofs.Hinting.{if_at}
use Rattle.table_core.proofs.Placing.{at_place}
use Rattle.table_core.proofs.hints.hint_at.Goals as goal

pub returns-in-Some : goal.returns-in-Some
returns-in-Some c = if_at c.hint_of.result c.args.objects.now c.args.at c.in-Some.object.now c.args.fault
    (at_place c.args.objects.now c.args.at c.in-Some.object.now c.in-Some.ensures.lookup.3.0 c.in-Some.ensures.lookup.1) c.hint_of.ensures
