use Rattle.history_law.proofs.WrittenReading.{all_is_read}
use Rattle.history_law.proofs.written_laws.all_is_read.Goals as goal

pub returns : goal.returns
returns c = all_is_read
