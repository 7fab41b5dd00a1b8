use Rattle.guest_core.proofs.Telling.{consecutive}
use Rattle.guest_core.proofs.laws.keys_are_consecutive.Goals as goal

pub returns : goal.returns
returns c = consecutive
