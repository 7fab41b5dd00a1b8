use Rattle.run_core.proofs.Growing.{known_grows}
use Rattle.run_core.proofs.laws.known_grows.Goals as goal

pub returns : goal.returns
returns c = known_grows
