use Rattle.history_law.proofs.LifeEnding.{turns_end_so}
use Rattle.history_law.proofs.life_laws.turns_end_so.Goals as goal

pub returns : goal.returns
returns c = turns_end_so
