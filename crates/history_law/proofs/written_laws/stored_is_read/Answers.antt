use Rattle.history_law.proofs.WrittenReading.{stored_is_read}
use Rattle.history_law.proofs.written_laws.stored_is_read.Goals as goal

pub returns : goal.returns
returns c = stored_is_read
