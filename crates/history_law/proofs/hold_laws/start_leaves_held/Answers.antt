use Rattle.history_law.proofs.Playing.{start_leaves_held}
use Rattle.history_law.proofs.hold_laws.start_leaves_held.Goals as goal

pub returns : goal.returns
returns c = start_leaves_held
