use Rattle.history_law.proofs.LineTurning.{crash_leaves_lines}
use Rattle.history_law.proofs.asked_laws.crash_leaves_lines.Goals as goal

pub returns : goal.returns
returns c = crash_leaves_lines
