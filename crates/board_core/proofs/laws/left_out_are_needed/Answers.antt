use Rattle.board_core.proofs.AfterFinish.{left_out_are_needed}
use Rattle.board_core.proofs.laws.left_out_are_needed.Goals as goal

pub returns : goal.returns
returns c = left_out_are_needed
