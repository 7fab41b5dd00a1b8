use Rattle.history_law.proofs.Answering.{crash_leaves_open}
use Rattle.history_law.proofs.talk_laws.crash_leaves_open.Goals as goal

pub returns : goal.returns
returns c = crash_leaves_open
