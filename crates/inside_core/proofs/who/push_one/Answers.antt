use Rattle.std.specs.Prelude.{option_map}
use Rattle.stuck_core.specs.Who.{Sitting}
use Rattle.inside_core.specs.Adds.{crowd_of}
use Rattle.inside_core.proofs.Adding.{one_seat}
use Rattle.inside_core.proofs.who.push_one.Goals as goal

pub returns : goal.returns
returns c =
    let row : Sitting = record { seat = c.seat_of-told.result; name = option_map (λ n. n.now) c.name_of-name.result } in
    one_seat (crowd_of c.args.clients.now c.args.whom) c.args.seat row c.args.out.now.items c.push_seat.new.out.items
    (record {
      session = c.seat_of-told.ensures.session;
      calls = c.seat_of-told.ensures.calls;
      name = c.name_of-name.ensures;
      since = c.seat_of-told.ensures.since;
    })
    c.in_ok-push_seat.ensures
