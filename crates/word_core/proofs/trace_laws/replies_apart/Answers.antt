use Rattle.word_core.proofs.TraceReading.{replies_apart}
use Rattle.word_core.proofs.trace_laws.replies_apart.Goals as goal

pub returns : goal.returns
returns c = replies_apart
