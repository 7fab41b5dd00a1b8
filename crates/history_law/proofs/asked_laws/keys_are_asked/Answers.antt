use Rattle.history_law.proofs.AskedKeying.{keys_are_asked}
use Rattle.history_law.proofs.asked_laws.keys_are_asked.Goals as goal

pub returns : goal.returns
returns c = keys_are_asked
