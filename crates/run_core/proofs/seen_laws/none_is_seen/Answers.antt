use Rattle.run_core.proofs.Order.{none_is_seen}
use Rattle.run_core.proofs.seen_laws.none_is_seen.Goals as goal

pub returns : goal.returns
returns c = none_is_seen
