use Rattle.board_core.proofs.AfterFinish.{pins_are_new_or_old}
use Rattle.board_core.proofs.laws.pins_are_new_or_old.Goals as goal

pub returns : goal.returns
returns c = pins_are_new_or_old
