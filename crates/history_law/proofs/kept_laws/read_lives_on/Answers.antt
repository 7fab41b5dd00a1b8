use Rattle.history_law.proofs.TurnLiving.{read_lives_on}
use Rattle.history_law.proofs.kept_laws.read_lives_on.Goals as goal

pub returns : goal.returns
returns c = read_lives_on
