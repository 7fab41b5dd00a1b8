use Rattle.word_core.proofs.Written.{written_ending}
use Rattle.word_core.proofs.laws.written_ending.Goals as goal

pub returns : goal.returns
returns c = written_ending
