use Rattle.history_law.proofs.HoldTurning.{turns_give_once}
use Rattle.history_law.proofs.hold_laws.turns_give_once.Goals as goal

pub returns : goal.returns
returns c = turns_give_once
