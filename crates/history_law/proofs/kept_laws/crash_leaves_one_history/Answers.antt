use Rattle.history_law.proofs.TurnLiving.{crash_leaves_one_history}
use Rattle.history_law.proofs.kept_laws.crash_leaves_one_history.Goals as goal

pub returns : goal.returns
returns c = crash_leaves_one_history
