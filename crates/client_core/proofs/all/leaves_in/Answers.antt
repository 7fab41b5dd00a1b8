use Rattle.client_core.proofs.Placing.{at_place, same_at, stays_at, free_at}
use Rattle.client_core.specs.Holding.{Goes}
use Rattle.client_core.proofs.Becoming.{becomes}
use Rattle.client_core.proofs.all.leaves_in.Goals as goal

pub returns-in_ok-stays-in-Some-clause-goes : goal.returns-in_ok-stays-in-Some-clause-goes
returns-in_ok-stays-in-Some-clause-goes c = becomes (Goes c.args.session c.args.is_named c.args.second) c.args.rows.now.items c.args.at
    c.in-Some.holding.now c.leaves_one.new.holding
    (at_place c.args.rows.now.items c.args.at c.in-Some.holding.now c.in-Some.ensures.item.3.0 c.in-Some.ensures.value)
    c.in_ok-stays-in-Some.ensures.goes

pub returns-in_ok-stays-in-Some-clause-same : goal.returns-in_ok-stays-in-Some-clause-same
returns-in_ok-stays-in-Some-clause-same c = same_at c.args.rows.now.items c.args.at c.in-Some.holding.now c.leaves_one.new.holding
    (at_place c.args.rows.now.items c.args.at c.in-Some.holding.now c.in-Some.ensures.item.3.0 c.in-Some.ensures.value)
    c.in_ok-stays-in-Some.ensures.same

pub returns-in_ok-stays-in-Some-clause-stays : goal.returns-in_ok-stays-in-Some-clause-stays
returns-in_ok-stays-in-Some-clause-stays c = λ yes. stays_at c.args.rows.now.items c.args.at c.in-Some.holding.now c.args.session c.args.is_named
    (at_place c.args.rows.now.items c.args.at c.in-Some.holding.now c.in-Some.ensures.item.3.0 c.in-Some.ensures.value)
    (c.in_ok-stays-in-Some.ensures.stays yes)

pub returns-in_ok-stays-in-Some-clause-free : goal.returns-in_ok-stays-in-Some-clause-free
returns-in_ok-stays-in-Some-clause-free c = λ no. free_at c.args.rows.now.items c.args.at c.in-Some.holding.now c.args.session c.args.is_named
    (at_place c.args.rows.now.items c.args.at c.in-Some.holding.now c.in-Some.ensures.item.3.0 c.in-Some.ensures.value)
    (c.in_ok-stays-in-Some.ensures.free no)
