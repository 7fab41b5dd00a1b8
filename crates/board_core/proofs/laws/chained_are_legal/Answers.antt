use Rattle.board_core.proofs.Law.{chained_are_legal}
use Rattle.board_core.proofs.laws.chained_are_legal.Goals as goal

pub returns : goal.returns
returns c = chained_are_legal
