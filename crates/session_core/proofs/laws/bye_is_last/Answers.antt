use Rattle.session_core.proofs.Turns as turns
use Rattle.session_core.proofs.laws.bye_is_last.Goals as goal

pub returns : goal.returns
returns c = turns.bye_is_last
