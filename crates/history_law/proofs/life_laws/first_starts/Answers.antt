use Rattle.history_law.proofs.LifeStarting.{first_starts}
use Rattle.history_law.proofs.life_laws.first_starts.Goals as goal

pub returns : goal.returns
returns c = first_starts
