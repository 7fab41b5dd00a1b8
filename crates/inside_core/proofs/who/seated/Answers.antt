use Rattle.std.proofs.Common.{◌≡◌, arith, length}
use Rattle.client_core.specs.State.{peers_of}
use Rattle.inside_core.proofs.Sitting.{are_sitting}
use Rattle.inside_core.proofs.who.seated.Goals as goal

pub returns : goal.returns
returns c =
    let count : c.in_ok-all.all.len ≡ length c.in_ok-all.all.items = omega (arith, c.in_ok-all.all.ok.0) in
    are_sitting c.args.whom.at c.args.whom.from c.in_ok-all.all.len (peers_of c.args.clients.now) c.deref_mut.result.now c.in_ok-all.all.items c.sort.new.all count
    c.in_ok-all.ensures c.deref_mut.ensures.value c.sort.ensures.same c.sort.ensures.rising
