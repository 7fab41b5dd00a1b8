use Rattle.history_law.proofs.Starting.{behind_stands}
use Rattle.history_law.proofs.kept_laws.behind_stands.Goals as goal

pub returns : goal.returns
returns c = behind_stands
