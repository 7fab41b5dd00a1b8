use Rattle.history_law.proofs.Playing.{played_is_held}
use Rattle.history_law.proofs.hold_laws.played_is_held.Goals as goal

pub returns : goal.returns
returns c = played_is_held
