use Rattle.word_core.proofs.TraceReading.{trace_is_read}
use Rattle.word_core.proofs.trace_laws.trace_is_read.Goals as goal

pub returns : goal.returns
returns c = trace_is_read
