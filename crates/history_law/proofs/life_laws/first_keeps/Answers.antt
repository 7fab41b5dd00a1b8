use Rattle.history_law.proofs.LifeBeginning.{first_keeps}
use Rattle.history_law.proofs.life_laws.first_keeps.Goals as goal

pub returns : goal.returns
returns c = first_keeps
