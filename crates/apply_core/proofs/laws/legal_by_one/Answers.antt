use Rattle.apply_core.proofs.Histories.{legal_by_one}
use Rattle.apply_core.proofs.laws.legal_by_one.Goals as goal

pub returns : goal.returns
returns c = legal_by_one
