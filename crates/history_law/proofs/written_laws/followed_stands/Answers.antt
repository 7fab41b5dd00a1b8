use Rattle.history_law.proofs.Beginning.{followed_stands}
use Rattle.history_law.proofs.written_laws.followed_stands.Goals as goal

pub returns : goal.returns
returns c = followed_stands
