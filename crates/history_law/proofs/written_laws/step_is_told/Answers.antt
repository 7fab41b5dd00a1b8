use Rattle.history_law.proofs.WrittenTelling.{step_is_told}
use Rattle.history_law.proofs.written_laws.step_is_told.Goals as goal

pub returns : goal.returns
returns c = step_is_told
