use Rattle.history_law.proofs.KeptGoing.{lines_are_read}
use Rattle.history_law.proofs.kept_laws.lines_are_read.Goals as goal

pub returns : goal.returns
returns c = lines_are_read
