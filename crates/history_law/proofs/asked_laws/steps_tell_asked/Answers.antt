use Rattle.history_law.proofs.Tracing.{steps_tell_asked}
use Rattle.history_law.proofs.asked_laws.steps_tell_asked.Goals as goal

pub returns : goal.returns
returns c = steps_tell_asked
