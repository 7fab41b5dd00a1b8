use Rattle.history_law.proofs.LifeTurning.{objects_keep}
use Rattle.history_law.proofs.life_laws.objects_keep.Goals as goal

pub returns : goal.returns
returns c = objects_keep
