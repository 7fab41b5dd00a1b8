use Rattle.history_law.proofs.Runs.{replies_are_asked}
use Rattle.history_law.proofs.asker_laws.replies_are_asked.Goals as goal

pub returns : goal.returns
returns c = replies_are_asked
