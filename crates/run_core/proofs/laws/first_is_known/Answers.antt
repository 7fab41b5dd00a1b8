use Rattle.run_core.proofs.Growing.{first_is_known}
use Rattle.run_core.proofs.laws.first_is_known.Goals as goal

pub returns : goal.returns
returns c = first_is_known
