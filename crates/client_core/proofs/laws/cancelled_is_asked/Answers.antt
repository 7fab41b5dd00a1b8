use Rattle.client_core.proofs.Cancelling.{cancelled_is_asked}
use Rattle.client_core.proofs.laws.cancelled_is_asked.Goals as goal

pub returns : goal.returns
returns c = cancelled_is_asked
