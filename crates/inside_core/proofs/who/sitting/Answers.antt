use Rattle.std.proofs.Common.{◌<◌, length, arith}
use Rattle.client_core.specs.State.{peers_of}
use Rattle.inside_core.proofs.Sitting.{sits_more}
use Rattle.inside_core.proofs.who.sitting.Goals as goal

pub loop-place-preserved : goal.loop-place-preserved
loop-place-preserved c =
    let inside : c.loop-place.place < length (peers_of c.args.clients.now) = (let a = c.count-place-end.ensures in let b = c.loop-place-test.true in omega (arith, a, b)) in
    sits_more c.args.whom.at c.args.whom.from (peers_of c.args.clients.now) c.loop-place.place c.loop-place.all.items c.push_sitting.new.all.items inside
    c.loop-place.invariant c.in_ok-push_sitting.ensures
