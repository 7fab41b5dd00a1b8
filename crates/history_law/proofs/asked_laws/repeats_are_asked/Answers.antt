use Rattle.history_law.proofs.Repeating.{repeats_are_asked}
use Rattle.history_law.proofs.asked_laws.repeats_are_asked.Goals as goal

pub returns : goal.returns
returns c = repeats_are_asked
