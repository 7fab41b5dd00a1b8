use Rattle.std.specs.Prelude.{false}
use Rattle.table_core.proofs.Seating.{sets_waits}
use Rattle.table_core.proofs.peers.rest.Goals as goal

pub returns : goal.returns
returns c =
    sets_waits c.args.clients.now c.set_waits.new.self c.ready.new.self c.args.place false c.set_waits.ensures.others c.set_waits.ensures.set c.ready.ensures
