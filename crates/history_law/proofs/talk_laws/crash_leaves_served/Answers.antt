use Rattle.history_law.proofs.Serving.{crash_leaves_served}
use Rattle.history_law.proofs.talk_laws.crash_leaves_served.Goals as goal

pub returns : goal.returns
returns c = crash_leaves_served
