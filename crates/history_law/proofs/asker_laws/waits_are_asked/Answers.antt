use Rattle.history_law.proofs.Runs.{waits_are_asked}
use Rattle.history_law.proofs.asker_laws.waits_are_asked.Goals as goal

pub returns : goal.returns
returns c = waits_are_asked
