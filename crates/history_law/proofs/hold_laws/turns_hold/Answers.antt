use Rattle.history_law.proofs.HoldTurning.{turns_hold}
use Rattle.history_law.proofs.hold_laws.turns_hold.Goals as goal

pub returns : goal.returns
returns c = turns_hold
