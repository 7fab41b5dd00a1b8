use Rattle.table_core.proofs.Placing.{at_place}
use Rattle.table_core.proofs.objects.operation_at.Goals as goal

pub returns-in-Some : goal.returns-in-Some
returns-in-Some c = record {
  object = c.in-Some.object.now;
  there = at_place c.args.objects.now c.args.at c.in-Some.object.now c.in-Some.ensures.lookup.3.0 c.in-Some.ensures.lookup.1;
  named = c.operation.ensures;
}
