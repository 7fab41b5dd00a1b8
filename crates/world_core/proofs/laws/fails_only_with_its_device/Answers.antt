use Rattle.world_core.proofs.Playing.{fails_only}
use Rattle.world_core.proofs.laws.fails_only_with_its_device.Goals as goal

pub returns : goal.returns
returns c = fails_only
