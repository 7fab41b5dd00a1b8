use Rattle.client_core.proofs.HeldLines.{held_follows}
use Rattle.client_core.proofs.laws.held_follows.Goals as goal

pub returns : goal.returns
returns c = held_follows
