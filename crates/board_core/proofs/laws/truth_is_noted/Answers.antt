use Rattle.board_core.proofs.BoardLaws.{truth_is_noted}
use Rattle.board_core.proofs.laws.truth_is_noted.Goals as goal

pub returns : goal.returns
returns c = truth_is_noted
