use Rattle.word_core.proofs.Growing.{body_is_same}
use Rattle.word_core.proofs.trace_laws.body_is_same.Goals as goal

pub returns : goal.returns
returns c = body_is_same
