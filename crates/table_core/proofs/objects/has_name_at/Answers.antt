use Rattle.table_core.proofs.Placing.{at_place, no_name}
use Rattle.table_core.proofs.objects.has_name_at.Goals as goal

pub returns-in-Some-clause-yes : goal.returns-in-Some-clause-yes
returns-in-Some-clause-yes c = λ is.
    (c.in-Some.object.now, at_place c.args.objects.now c.args.at c.in-Some.object.now c.in-Some.ensures.lookup.3.0 c.in-Some.ensures.lookup.1, c.is_of_name.ensures.yes is)

pub returns-in-Some-clause-no : goal.returns-in-Some-clause-no
returns-in-Some-clause-no c = λ is has.
    no_name c.args.objects.now c.args.at c.args.session c.in-Some.object.now (at_place c.args.objects.now c.args.at c.in-Some.object.now c.in-Some.ensures.lookup.3.0 c.in-Some.ensures.lookup.1)
    (c.is_of_name.ensures.no is) has
