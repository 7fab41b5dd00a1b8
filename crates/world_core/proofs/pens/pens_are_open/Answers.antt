use Rattle.device_core.specs.Files.{IsOpen}
use Rattle.run_core.proofs.Pens.{pending_of}
use Rattle.world_core.proofs.pens.pens_are_open.Goals as goal

pub returns : goal.returns
returns c = λ files run n at holds. pending_of (λ n b. IsOpen files n b) run n at holds
