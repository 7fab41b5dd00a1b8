use Rattle.known_core.proofs.Filling.{pages_after}
use Rattle.known_core.proofs.laws.pages_after.Goals as goal

pub returns : goal.returns
returns c = pages_after
