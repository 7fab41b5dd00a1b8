use Rattle.std.proofs.Common.{refl}
use Rattle.table_core.proofs.Placing.{at_place}
use Rattle.table_core.proofs.objects.begin_at.Goals as goal

pub returns-in-Some-clause-begun : goal.returns-in-Some-clause-begun
returns-in-Some-clause-begun c = λ yes.
    record {
      before = c.in-Some.object.now;
      after = c.begin_next.new.self;
      there = (at_place c.args.objects.now.items c.args.at c.in-Some.object.now c.in-Some.ensures.item.3.0 c.in-Some.ensures.value);
      begun = c.begin_next.ensures.begun yes;
      left = refl;
    }
