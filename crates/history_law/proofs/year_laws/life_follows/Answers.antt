use Rattle.history_law.proofs.Living.{life_follows}
use Rattle.history_law.proofs.year_laws.life_follows.Goals as goal

pub returns : goal.returns
returns c = life_follows
