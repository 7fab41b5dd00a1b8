use Rattle.history_law.proofs.WrittenTelling.{steps_are_told}
use Rattle.history_law.proofs.written_laws.steps_are_told.Goals as goal

pub returns : goal.returns
returns c = steps_are_told
