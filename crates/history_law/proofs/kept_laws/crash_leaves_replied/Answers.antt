use Rattle.history_law.proofs.TurnReplying.{crash_leaves_replied}
use Rattle.history_law.proofs.kept_laws.crash_leaves_replied.Goals as goal

pub returns : goal.returns
returns c = crash_leaves_replied
