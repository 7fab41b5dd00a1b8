use Rattle.history_law.proofs.Cut.{crashed}
use Rattle.history_law.proofs.crash_laws.crash_leaves_legal.Goals as goal

pub returns : goal.returns
returns c = crashed
