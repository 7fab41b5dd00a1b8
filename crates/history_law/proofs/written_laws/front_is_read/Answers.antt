use Rattle.history_law.proofs.WrittenReading.{front_is_read}
use Rattle.history_law.proofs.written_laws.front_is_read.Goals as goal

pub returns : goal.returns
returns c = front_is_read
