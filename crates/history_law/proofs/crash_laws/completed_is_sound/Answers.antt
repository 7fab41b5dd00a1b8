use Rattle.history_law.proofs.Cut.{completed}
use Rattle.history_law.proofs.crash_laws.completed_is_sound.Goals as goal

pub returns : goal.returns
returns c = completed c.finish_keeps_satisfaction.ensures
