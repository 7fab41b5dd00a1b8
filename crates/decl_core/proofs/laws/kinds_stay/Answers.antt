use Rattle.decl_core.proofs.KindsStay.{kinds_stay}
use Rattle.decl_core.proofs.laws.kinds_stay.Goals as goal

pub returns : goal.returns
returns c = kinds_stay
