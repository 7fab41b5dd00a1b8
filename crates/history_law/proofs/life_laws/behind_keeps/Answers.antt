use Rattle.history_law.proofs.LifeBeginning.{behind_keeps}
use Rattle.history_law.proofs.life_laws.behind_keeps.Goals as goal

pub returns : goal.returns
returns c = behind_keeps
