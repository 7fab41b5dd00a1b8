use Rattle.client_core.specs.People.{named}
use Rattle.table_core.proofs.Seating.{known_there}
use Rattle.table_core.proofs.peers.name.Goals as goal

pub returns : goal.returns
returns c = known_there c.args.clients.now c.set_name.new.self c.args.place (named c.args.name) c.set_name.ensures.others c.set_name.ensures.set
