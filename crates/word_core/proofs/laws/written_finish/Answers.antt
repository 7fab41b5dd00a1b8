use Rattle.word_core.proofs.Written.{written_finish}
use Rattle.word_core.proofs.laws.written_finish.Goals as goal

pub returns : goal.returns
returns c = written_finish
