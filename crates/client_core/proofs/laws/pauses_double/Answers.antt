use Rattle.std.proofs.Common.{refl}
use Rattle.client_core.proofs.laws.pauses_double.Goals as goal

pub returns : goal.returns
returns c = refl
