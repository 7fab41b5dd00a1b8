use Rattle.known_core.proofs.Filling.{filled_is_spelled}
use Rattle.known_core.proofs.laws.filled_is_spelled.Goals as goal

pub returns : goal.returns
returns c = filled_is_spelled
