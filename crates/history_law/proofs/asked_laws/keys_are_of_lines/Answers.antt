use Rattle.history_law.proofs.LineTurning.{keys_are_of_lines}
use Rattle.history_law.proofs.asked_laws.keys_are_of_lines.Goals as goal

pub returns : goal.returns
returns c = keys_are_of_lines
