use Rattle.history_law.proofs.KeptGoing.{crash_leaves_answered}
use Rattle.history_law.proofs.kept_laws.crash_leaves_answered.Goals as goal

pub returns : goal.returns
returns c = crash_leaves_answered
