use Rattle.board_core.proofs.Admission.{admission_starts}
use Rattle.board_core.proofs.laws.admission_starts.Goals as goal

pub returns : goal.returns
returns c = admission_starts
