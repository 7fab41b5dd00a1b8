use Rattle.std.proofs.Common.{◌<◌, length, arith}
use Rattle.live_core.proofs.Writing.{clients_more}
use Rattle.live_core.proofs.epoch.push_clients.Goals as goal

pub loop-guest-preserved : goal.loop-guest-preserved
loop-guest-preserved c =
    let inside : c.loop-guest.guest-index < length c.args.guests.now = omega arith in
    clients_more c.args.out.now.items c.loop-guest.out.items c.push_guest.new.out.items c.args.guests.now c.loop-guest.guest-index c.guest-item.result c.guest-item.result inside c.guest-item.is c.loop-guest.invariant c.in_ok-push_guest.ensures
