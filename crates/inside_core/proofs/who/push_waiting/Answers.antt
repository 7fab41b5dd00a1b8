use Rattle.stuck_core.specs.ReasonViews.{whys_of}
use Rattle.stuck_core.specs.Who.{Refused}
use Rattle.inside_core.specs.Adds.{crowd_of}
use Rattle.inside_core.proofs.Adding.{one_wait}
use Rattle.inside_core.proofs.who.push_waiting.Goals as goal

pub returns : goal.returns
returns c =
    let row : Refused = record { call = c.waiting_of-waiting.result; whys = whys_of c.args.reasons.now } in
    one_wait (crowd_of c.args.clients.now c.args.whom) c.args.seats.now c.args.object.now c.args.call.now row c.count_of.result c.args.out.now.items c.push_rows.new.out.items
    (record {
      number = c.waiting_of-waiting.ensures.number;
      session = c.waiting_of-waiting.ensures.session;
      operation = c.waiting_of-waiting.ensures.operation;
      since = c.waiting_of-waiting.ensures.since;
      whys = c.requires;
    })
    c.count_of.ensures
    c.in_ok-push_rows.ensures
