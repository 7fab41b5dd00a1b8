use Rattle.table_core.proofs.Seating.{opens}
use Rattle.table_core.proofs.peers.open.Goals as goal

pub returns : goal.returns
returns c = opens c.args.clients.now c.set_opened.new.self c.args.place c.args.opened c.set_opened.ensures.others c.set_opened.ensures.set
