use Rattle.word_core.proofs.Clear.{written_data}
use Rattle.word_core.proofs.laws.written_data.Goals as goal

pub returns : goal.returns
returns c = written_data
