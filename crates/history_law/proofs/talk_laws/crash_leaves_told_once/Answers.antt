use Rattle.history_law.proofs.OrderRuns.{crash_leaves_told_once}
use Rattle.history_law.proofs.talk_laws.crash_leaves_told_once.Goals as goal

pub returns : goal.returns
returns c = crash_leaves_told_once
