use Rattle.history_law.proofs.Answering.{crash_leaves_done}
use Rattle.history_law.proofs.talk_laws.crash_leaves_done.Goals as goal

pub returns : goal.returns
returns c = crash_leaves_done
