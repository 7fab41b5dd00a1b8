use Rattle.world_core.specs.Events.{event_of}
use Rattle.world_core.proofs.Doing.{event_happens}
use Rattle.world_core.proofs.script.answer.tell_event.Goals as goal

pub returns : goal.returns
returns c =
    event_happens c.push_told.result c.args.world.now c.event-told.new.self (event_of c.args.event) c.args.number c.event-told.result c.args.out.now.items c.push_told.new.out.items c.event-told.ensures
    c.push_told.ensures.told c.push_told.ensures.memory
