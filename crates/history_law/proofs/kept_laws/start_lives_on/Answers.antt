use Rattle.history_law.proofs.TurnLiving.{start_lives_on}
use Rattle.history_law.proofs.kept_laws.start_lives_on.Goals as goal

pub returns : goal.returns
returns c = start_lives_on
