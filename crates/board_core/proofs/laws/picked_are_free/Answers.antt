use Rattle.board_core.proofs.BoardLaws.{picked_are_free}
use Rattle.board_core.proofs.laws.picked_are_free.Goals as goal

pub returns : goal.returns
returns c = picked_are_free
