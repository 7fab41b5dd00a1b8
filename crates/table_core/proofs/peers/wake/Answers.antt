use Rattle.table_core.proofs.Seating.{all_same}
use Rattle.table_core.proofs.peers.wake.Goals as goal

pub returns : goal.returns
returns c = all_same c.args.clients.now c.wake.new.self c.wake.ensures
