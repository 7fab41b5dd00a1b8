use Rattle.client_core.specs.People.{called_at}
use Rattle.table_core.proofs.Seating.{known_there}
use Rattle.table_core.proofs.peers.called.Goals as goal

pub returns : goal.returns
returns c = known_there c.args.clients.now c.set_called.new.self c.args.place (called_at c.args.second) c.set_called.ensures.others c.set_called.ensures.set
