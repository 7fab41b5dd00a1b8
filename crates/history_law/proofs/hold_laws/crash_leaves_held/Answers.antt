use Rattle.history_law.proofs.Crashed.{crash_leaves_held}
use Rattle.history_law.proofs.hold_laws.crash_leaves_held.Goals as goal

pub returns : goal.returns
returns c = crash_leaves_held
