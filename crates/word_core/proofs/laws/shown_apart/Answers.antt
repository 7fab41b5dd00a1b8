use Rattle.word_core.proofs.Telling.{shown_apart}
use Rattle.word_core.proofs.laws.shown_apart.Goals as goal

pub returns : goal.returns
returns c = shown_apart
