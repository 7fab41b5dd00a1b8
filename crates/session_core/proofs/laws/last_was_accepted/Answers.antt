use Rattle.session_core.proofs.Turns as turns
use Rattle.session_core.proofs.laws.last_was_accepted.Goals as goal

pub returns : goal.returns
returns c = turns.last_was_accepted
