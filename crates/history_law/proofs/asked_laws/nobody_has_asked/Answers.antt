use Rattle.history_law.proofs.AskedTurning.{nobody_has_asked}
use Rattle.history_law.proofs.asked_laws.nobody_has_asked.Goals as goal

pub returns : goal.returns
returns c = nobody_has_asked
