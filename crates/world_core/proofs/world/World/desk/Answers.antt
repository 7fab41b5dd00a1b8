use Rattle.std.proofs.Common.{subst}
use Rattle.world_core.specs.Headline.{IsSequential}
use Rattle.world_core.proofs.Sequential.{staged_is_sequential}
use Rattle.world_core.proofs.world.World.desk.Goals as goal

pub returns-clause-sequential : goal.returns-clause-sequential
returns-clause-sequential c = subst IsSequential c.self.view_is (staged_is_sequential c.self.inside.stage c.self.invariant.0)
