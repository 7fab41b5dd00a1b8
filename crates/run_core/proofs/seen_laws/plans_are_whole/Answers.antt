use Rattle.run_core.proofs.PlansWhole.{plans_are_whole}
use Rattle.run_core.proofs.seen_laws.plans_are_whole.Goals as goal

pub returns : goal.returns
returns c = plans_are_whole
