use Rattle.decl_core.proofs.Footprints.{apply_is_local}
use Rattle.decl_core.proofs.laws.apply_is_local.Goals as goal

pub returns : goal.returns
returns c = apply_is_local
