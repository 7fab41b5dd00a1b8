use Rattle.table_core.proofs.Seating.{all_same}
use Rattle.table_core.proofs.peers.stall.Goals as goal

pub returns : goal.returns
returns c = all_same c.args.clients.now c.stall.new.self c.stall.ensures
