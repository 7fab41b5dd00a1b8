use Rattle.table_core.proofs.Seating.{goes}
use Rattle.table_core.proofs.peers.go.Goals as goal

pub returns : goal.returns
returns c = goes c.args.clients.now c.go.new.self c.args.place c.go.ensures.others c.go.ensures.away c.go.ensures.opened c.go.ensures.held
