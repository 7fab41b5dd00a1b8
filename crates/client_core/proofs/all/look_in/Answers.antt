use Rattle.client_core.specs.Due.{Looks}
use Rattle.client_core.proofs.Placing.{at_place, same_at}
use Rattle.client_core.proofs.Becoming.{becomes}
use Rattle.client_core.proofs.all.look_in.Goals as goal

pub returns-in-Some-clause-looks : goal.returns-in-Some-clause-looks
returns-in-Some-clause-looks c = becomes (Looks c.args.object.now c.args.second) c.args.rows.now.items c.args.at c.in-Some.holding.now c.look_one.new.holding
    (at_place c.args.rows.now.items c.args.at c.in-Some.holding.now c.in-Some.ensures.item.3.0 c.in-Some.ensures.value) c.look_one.ensures.looks

pub returns-in-Some-clause-held : goal.returns-in-Some-clause-held
returns-in-Some-clause-held c = same_at c.args.rows.now.items c.args.at c.in-Some.holding.now c.look_one.new.holding
    (at_place c.args.rows.now.items c.args.at c.in-Some.holding.now c.in-Some.ensures.item.3.0 c.in-Some.ensures.value) c.look_one.ensures.held
