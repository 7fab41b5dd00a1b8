use Rattle.table_core.proofs.Quiet.{nobody_seen, quiet_seen}
use Rattle.table_core.proofs.table.Table.with_held.Goals as goal

pub returns-clause-quiet : goal.returns-clause-quiet
returns-clause-quiet c = quiet_seen c.in_ok-clients.clients c.in_ok-clients.ensures.opened c.in_ok-clients.ensures.held

pub returns-clause-empty : goal.returns-clause-empty
returns-clause-empty c = nobody_seen c.in_ok-clients.clients c.in_ok-clients.ensures.nobody
