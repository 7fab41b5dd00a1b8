use Rattle.device_core.specs.Files.{IsOpen}
use Rattle.run_core.proofs.Pens.{kept}
use Rattle.world_core.proofs.pens.pens_stay.Goals as goal

pub returns : goal.returns
returns c = λ old new run stays holds. kept (λ n b. IsOpen old n b) (λ n b. IsOpen new n b) run stays holds
