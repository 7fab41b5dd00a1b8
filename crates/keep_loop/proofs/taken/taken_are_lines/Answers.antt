use Rattle.keep_loop.proofs.TakenLines.{taken_lines}
use Rattle.keep_loop.proofs.taken.taken_are_lines.Goals as goal

pub returns : goal.returns
returns c = taken_lines
