use Rattle.board_core.proofs.BoardLaws.{pins_stay}
use Rattle.board_core.proofs.laws.pins_stay.Goals as goal

pub returns : goal.returns
returns c = pins_stay
