use Rattle.history_law.proofs.TurnReading.{starts_are_asked}
use Rattle.history_law.proofs.asked_laws.starts_are_asked.Goals as goal

pub returns : goal.returns
returns c = starts_are_asked
