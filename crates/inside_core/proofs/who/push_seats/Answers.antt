use Rattle.std.proofs.Common.{arith}
use Rattle.inside_core.specs.Adds.{crowd_of}
use Rattle.inside_core.proofs.Adding.{seats_next}
use Rattle.inside_core.proofs.who.push_seats.Goals as goal

pub loop-place-preserved : goal.loop-place-preserved
loop-place-preserved c =
    seats_next (crowd_of c.args.clients.now c.args.whom) c.args.seats.now c.loop-place.place c.args.out.now.items c.loop-place.out.items c.push_one.new.out.items
    (let a = c.loop-place-test.true in omega (arith, a)) c.loop-place.invariant c.in_ok-push_one.ensures
