use Rattle.run_core.proofs.Growing.{miss_is_damaged}
use Rattle.run_core.proofs.laws.miss_is_damaged.Goals as goal

pub returns : goal.returns
returns c = miss_is_damaged
