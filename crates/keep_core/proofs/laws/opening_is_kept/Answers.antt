use Rattle.keep_core.proofs.Law.{opening_is_kept}
use Rattle.keep_core.proofs.laws.opening_is_kept.Goals as goal

pub returns : goal.returns
returns c = opening_is_kept
