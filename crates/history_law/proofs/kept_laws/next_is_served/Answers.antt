use Rattle.history_law.proofs.KeptGoing.{next_is_served}
use Rattle.history_law.proofs.kept_laws.next_is_served.Goals as goal

pub returns : goal.returns
returns c = next_is_served
