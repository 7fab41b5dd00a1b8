use Rattle.history_law.proofs.Newest.{due_gives_newest}
use Rattle.history_law.proofs.hold_laws.due_gives_newest.Goals as goal

pub returns : goal.returns
returns c = due_gives_newest
