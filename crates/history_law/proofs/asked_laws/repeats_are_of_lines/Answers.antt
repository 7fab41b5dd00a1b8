use Rattle.history_law.proofs.LineTurning.{repeats_are_of_lines}
use Rattle.history_law.proofs.asked_laws.repeats_are_of_lines.Goals as goal

pub returns : goal.returns
returns c = repeats_are_of_lines
