use Rattle.word_core.proofs.Growing.{begins_with_front}
use Rattle.word_core.proofs.trace_laws.begins_with_front.Goals as goal

pub returns : goal.returns
returns c = begins_with_front
