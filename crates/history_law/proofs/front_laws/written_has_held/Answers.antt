use Rattle.history_law.proofs.Holding.{written_has_held}
use Rattle.history_law.proofs.front_laws.written_has_held.Goals as goal

pub returns : goal.returns
returns c = written_has_held
