use Rattle.history_law.proofs.LifeReading.{crash_leaves_lives}
use Rattle.history_law.proofs.life_laws.crash_leaves_lives.Goals as goal

pub returns : goal.returns
returns c = crash_leaves_lives
