use Rattle.history_law.proofs.Beginning.{again_stands}
use Rattle.history_law.proofs.written_laws.again_stands.Goals as goal

pub returns : goal.returns
returns c = again_stands
