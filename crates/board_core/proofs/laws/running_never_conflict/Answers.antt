use Rattle.board_core.proofs.BoardLaws.{running_never_conflict}
use Rattle.board_core.proofs.laws.running_never_conflict.Goals as goal

pub returns : goal.returns
returns c = running_never_conflict
