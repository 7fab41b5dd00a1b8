use Rattle.history_law.proofs.TurnLiving.{turns_have_one_history}
use Rattle.history_law.proofs.kept_laws.turns_have_one_history.Goals as goal

pub returns : goal.returns
returns c = turns_have_one_history
