use Rattle.history_law.proofs.Turning.{turns_say}
use Rattle.history_law.proofs.said_laws.turns_say.Goals as goal

pub returns : goal.returns
returns c = turns_say
