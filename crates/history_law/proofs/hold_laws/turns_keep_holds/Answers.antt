use Rattle.history_law.proofs.HoldTurning.{turns_keep_holds}
use Rattle.history_law.proofs.hold_laws.turns_keep_holds.Goals as goal

pub returns : goal.returns
returns c = turns_keep_holds
