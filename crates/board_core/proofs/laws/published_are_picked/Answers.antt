use Rattle.board_core.proofs.Freed.{published_are_picked}
use Rattle.board_core.proofs.laws.published_are_picked.Goals as goal

pub returns : goal.returns
returns c = published_are_picked
