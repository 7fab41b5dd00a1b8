use Rattle.known_core.proofs.Filling.{whole_is_spelled}
use Rattle.known_core.proofs.laws.whole_is_spelled.Goals as goal

pub returns : goal.returns
returns c = whole_is_spelled
