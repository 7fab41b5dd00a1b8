use Rattle.session_core.proofs.Turns as turns
use Rattle.session_core.proofs.laws.accepted_ends.Goals as goal

pub returns : goal.returns
returns c = turns.accepted_ends
