use Rattle.apply_core.proofs.PieceSpelled.{frame_is_due}
use Rattle.apply_core.proofs.piece_laws.frame_is_due.Goals as goal

pub returns : goal.returns
returns c = frame_is_due
