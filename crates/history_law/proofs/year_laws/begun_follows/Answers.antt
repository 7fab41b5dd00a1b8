use Rattle.history_law.proofs.Sound.{begun_follows}
use Rattle.history_law.proofs.year_laws.begun_follows.Goals as goal

pub returns : goal.returns
returns c = begun_follows
