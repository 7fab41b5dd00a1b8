use Rattle.keep_core.proofs.Law.{kept_is_history}
use Rattle.keep_core.proofs.laws.kept_is_history.Goals as goal

pub returns : goal.returns
returns c = kept_is_history
