use Rattle.word_core.proofs.Endings.{ending_exact}
use Rattle.word_core.proofs.laws.ending_exact.Goals as goal

pub returns : goal.returns
returns c = ending_exact
