use Rattle.world_core.proofs.Playing.{all_told}
use Rattle.world_core.proofs.laws.replies_are_told.Goals as goal

pub returns : goal.returns
returns c = all_told
