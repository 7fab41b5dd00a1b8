use Rattle.recover_core.proofs.Ending.{held_are_lines as law}
use Rattle.recover_core.proofs.laws.held_are_lines.Goals as goal

pub returns : goal.returns
returns c = law
