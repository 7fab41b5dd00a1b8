use Rattle.history_law.proofs.LifeStarting.{behind_starts}
use Rattle.history_law.proofs.life_laws.behind_starts.Goals as goal

pub returns : goal.returns
returns c = behind_starts
