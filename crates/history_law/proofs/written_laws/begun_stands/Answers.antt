use Rattle.history_law.proofs.Beginning.{begun_stands}
use Rattle.history_law.proofs.written_laws.begun_stands.Goals as goal

pub returns : goal.returns
returns c = begun_stands
