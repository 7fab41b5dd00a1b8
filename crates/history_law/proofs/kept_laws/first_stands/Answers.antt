use Rattle.history_law.proofs.Starting.{first_stands}
use Rattle.history_law.proofs.kept_laws.first_stands.Goals as goal

pub returns : goal.returns
returns c = first_stands
