use Rattle.recover_core.proofs.Ending.{lines_tell_one as law}
use Rattle.recover_core.proofs.laws.lines_tell_one.Goals as goal

pub returns : goal.returns
returns c = law
