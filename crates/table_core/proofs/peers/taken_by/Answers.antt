use Rattle.std.proofs.lemmas.Option.{IfSome_then}
use Rattle.table_core.proofs.Seating.{here_is, away_if}
use Rattle.table_core.proofs.peers.taken_by.Goals as goal

pub returns-clause-some : goal.returns-clause-some
returns-clause-some c = IfSome_then c.taken_by.result c.taken_by.ensures.some (λ place here. here_is c.args.clients.now place here)

pub returns-clause-none : goal.returns-clause-none
returns-clause-none c = away_if c.args.clients.now c.args.who c.taken_by.result c.taken_by.ensures.none
