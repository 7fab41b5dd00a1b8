use Rattle.std.specs.Prelude.{Option, option_map, slice_get}
use Rattle.client_core.specs.Holding.{Holding}
use Rattle.inside_core.specs.Adds.{crowd_of}
use Rattle.table_core.proofs.Placing.{at_place}
use Rattle.table_core.proofs.Showing.{holding_at, who_there}
use Rattle.table_core.proofs.looking.who_at.Goals as goal

pub returns-in-Some : goal.returns-in-Some
returns-in-Some c = who_there c.args.objects.now (crowd_of c.args.clients.now c.args.whom) c.args.whom.at c.args.whom.from c.in-Some.object.now
    (slice_get c.args.custody.now c.args.whom.at) (option_map (λ h. h.now) c.at.result) c.who_of.result
    (at_place c.args.objects.now c.args.whom.at c.in-Some.object.now c.in-Some.ensures.lookup.3.0 c.in-Some.ensures.lookup.1) (holding_at (λ h. h.now) c.at.result c.args.custody.now c.args.whom.at c.at.ensures) c.who_of.ensures
