use Rattle.apply_core.proofs.Histories.{legal_splits}
use Rattle.apply_core.proofs.laws.legal_splits.Goals as goal

pub returns : goal.returns
returns c = legal_splits
