use Rattle.history_law.proofs.FrontReading.{written_is_read}
use Rattle.history_law.proofs.front_laws.written_is_read.Goals as goal

pub returns : goal.returns
returns c = written_is_read
