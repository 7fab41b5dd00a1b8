use Rattle.history_law.proofs.Newest.{due_stays}
use Rattle.history_law.proofs.hold_laws.due_stays.Goals as goal

pub returns : goal.returns
returns c = due_stays
