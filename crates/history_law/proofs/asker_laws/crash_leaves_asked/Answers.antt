use Rattle.history_law.proofs.Runs.{crash_leaves_asked}
use Rattle.history_law.proofs.asker_laws.crash_leaves_asked.Goals as goal

pub returns : goal.returns
returns c = crash_leaves_asked
