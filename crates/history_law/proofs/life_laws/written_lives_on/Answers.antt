use Rattle.history_law.proofs.LifeReading.{written_lives_on}
use Rattle.history_law.proofs.life_laws.written_lives_on.Goals as goal

pub returns : goal.returns
returns c = written_lives_on
