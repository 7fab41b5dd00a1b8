use Rattle.known_core.proofs.Fitting.{masks_grow}
use Rattle.known_core.proofs.laws.masks_grow.Goals as goal

pub returns : goal.returns
returns c = masks_grow
