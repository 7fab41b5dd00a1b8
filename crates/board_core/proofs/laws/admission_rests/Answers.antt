use Rattle.board_core.proofs.Admission.{rests_after}
use Rattle.board_core.proofs.laws.admission_rests.Goals as goal

pub returns : goal.returns
returns c = rests_after
