use Rattle.word_core.proofs.Growing.{grows_by_line}
use Rattle.word_core.proofs.trace_laws.grows_by_line.Goals as goal

pub returns : goal.returns
returns c = grows_by_line
