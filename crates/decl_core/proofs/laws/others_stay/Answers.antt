use Rattle.decl_core.proofs.Footprints.{others_stay}
use Rattle.decl_core.proofs.laws.others_stay.Goals as goal

pub returns : goal.returns
returns c = others_stay
