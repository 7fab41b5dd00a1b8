use Rattle.path_count.proofs.NeedsEnd.{turn}
use Rattle.path_count.proofs.path_laws.turn_needs_end.Goals as goal

pub returns : goal.returns
returns c = turn
