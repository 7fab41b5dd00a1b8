use Rattle.world_core.proofs.Working.{steps_work, of_at_most}
use Rattle.world_core.proofs.laws.steps_take_work.Goals as goal

pub returns-clause-falls : goal.returns-clause-falls
returns-clause-falls c = steps_work

pub returns-clause-most : goal.returns-clause-most
returns-clause-most c = of_at_most
