use Rattle.history_law.proofs.LineTurning.{calls_are_of_lines}
use Rattle.history_law.proofs.asked_laws.calls_are_of_lines.Goals as goal

pub returns : goal.returns
returns c = calls_are_of_lines
