use Rattle.guest_core.proofs.Judging.{key_once}
use Rattle.guest_core.proofs.laws.keys_stand_once.Goals as goal

pub returns : goal.returns
returns c = key_once
