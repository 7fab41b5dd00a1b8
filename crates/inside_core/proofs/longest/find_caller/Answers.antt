use Rattle.std.proofs.Common.{◌≤◌, length, sym, ◌∙◌, arith}
use Rattle.client_core.specs.State.{peers_of}
use Rattle.inside_core.specs.Adds.{crowd_of}
use Rattle.inside_core.proofs.Awaiting.{none_at_all, none_more}
use Rattle.inside_core.proofs.longest.find_caller.Goals as goal

pub loop-place-preserved : goal.loop-place-preserved
loop-place-preserved c =
    none_more (crowd_of c.args.clients.now c.args.whom) c.args.session c.args.told c.loop-place.place c.loop-place.invariant
    (sym c.calls_at.ensures ∙ c.if-calls_at.false)

pub returns-clause-none : goal.returns-clause-none
returns-clause-none c =
    let all : length (peers_of c.args.clients.now) ≤ c.loop-place.place = (let a = c.count-place-end.ensures in let b = c.loop-place-test.false in omega (arith, a, b)) in
    none_at_all (crowd_of c.args.clients.now c.args.whom) c.args.session c.args.told c.loop-place.place all c.loop-place.invariant
