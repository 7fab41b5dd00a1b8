use Rattle.known_core.proofs.Filling.{contents_after}
use Rattle.known_core.proofs.laws.contents_after.Goals as goal

pub returns : goal.returns
returns c = contents_after
