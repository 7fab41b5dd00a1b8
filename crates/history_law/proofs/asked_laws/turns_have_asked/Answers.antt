use Rattle.history_law.proofs.AskedTurning.{turns_have_asked}
use Rattle.history_law.proofs.asked_laws.turns_have_asked.Goals as goal

pub returns : goal.returns
returns c = turns_have_asked
