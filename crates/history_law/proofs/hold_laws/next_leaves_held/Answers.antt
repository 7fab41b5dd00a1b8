use Rattle.history_law.proofs.Playing.{next_leaves_held}
use Rattle.history_law.proofs.hold_laws.next_leaves_held.Goals as goal

pub returns : goal.returns
returns c = next_leaves_held
