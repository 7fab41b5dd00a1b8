use Rattle.run_core.proofs.Order.{next_is_seen}
use Rattle.run_core.proofs.seen_laws.next_is_seen.Goals as goal

pub returns : goal.returns
returns c = next_is_seen
