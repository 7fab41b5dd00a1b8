use Rattle.word_core.proofs.Written.{written_integer}
use Rattle.word_core.proofs.laws.written_integer.Goals as goal

pub returns : goal.returns
returns c = written_integer
