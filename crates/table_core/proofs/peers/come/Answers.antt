use Rattle.table_core.proofs.Seating.{comes}
use Rattle.table_core.proofs.peers.come.Goals as goal

pub returns : goal.returns
returns c = comes c.args.clients.now c.come.new.self c.args.who c.come.ensures.others c.come.ensures.here c.come.ensures.opened c.come.ensures.held
