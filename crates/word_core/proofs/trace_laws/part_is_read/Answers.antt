use Rattle.word_core.proofs.TraceReading.{part_is_read}
use Rattle.word_core.proofs.trace_laws.part_is_read.Goals as goal

pub returns : goal.returns
returns c = part_is_read
