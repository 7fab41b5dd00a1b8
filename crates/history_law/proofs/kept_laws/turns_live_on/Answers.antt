use Rattle.history_law.proofs.TurnLiving.{turns_live_on}
use Rattle.history_law.proofs.kept_laws.turns_live_on.Goals as goal

pub returns : goal.returns
returns c = turns_live_on
