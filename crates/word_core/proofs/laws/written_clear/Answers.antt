use Rattle.word_core.proofs.Clear.{written_clear}
use Rattle.word_core.proofs.laws.written_clear.Goals as goal

pub returns : goal.returns
returns c = written_clear
