use Rattle.apply_core.proofs.PieceSpelled.{pages_tell}
use Rattle.apply_core.proofs.piece_laws.pages_tell.Goals as goal

pub returns : goal.returns
returns c = pages_tell
