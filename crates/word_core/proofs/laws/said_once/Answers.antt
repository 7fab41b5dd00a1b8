use Rattle.word_core.proofs.Cutting.{said_once}
use Rattle.word_core.proofs.laws.said_once.Goals as goal

pub returns : goal.returns
returns g c = said_once
