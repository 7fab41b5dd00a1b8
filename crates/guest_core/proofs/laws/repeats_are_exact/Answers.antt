use Rattle.guest_core.proofs.Repeating.{exact}
use Rattle.guest_core.proofs.laws.repeats_are_exact.Goals as goal

pub returns : goal.returns
returns c = exact
