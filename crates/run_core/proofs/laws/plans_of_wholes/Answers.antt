use Rattle.run_core.proofs.Alike.{plans_of_wholes}
use Rattle.run_core.proofs.laws.plans_of_wholes.Goals as goal

pub returns : goal.returns
returns c = plans_of_wholes
