use Rattle.table_core.proofs.Placing.{at_place}
use Rattle.table_core.proofs.Showing.{why_there}
use Rattle.table_core.proofs.looking.why_at.Goals as goal

pub returns-in-Some : goal.returns-in-Some
returns-in-Some c = why_there c.args.objects.now c.args.at c.args.told c.in-Some.object.now c.why_of.result
    (at_place c.args.objects.now c.args.at c.in-Some.object.now c.in-Some.ensures.lookup.3.0 c.in-Some.ensures.lookup.1) c.why_of.ensures
