use Rattle.board_core.proofs.Freed.{needed_is_published}
use Rattle.board_core.proofs.laws.needed_is_published.Goals as goal

pub returns : goal.returns
returns c = needed_is_published
