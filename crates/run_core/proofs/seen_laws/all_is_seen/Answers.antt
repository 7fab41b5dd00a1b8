use Rattle.run_core.proofs.Order.{all_is_seen}
use Rattle.run_core.proofs.seen_laws.all_is_seen.Goals as goal

pub returns : goal.returns
returns c = all_is_seen
