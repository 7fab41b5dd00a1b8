use Rattle.std.proofs.Common.{refl}
use Rattle.keep_loop.proofs.Slots.{opened}
use Rattle.keep_loop.proofs.post.open.Goals as goal

pub returns-clause-stage : goal.returns-clause-stage
returns-clause-stage c = λ k j. opened c.args.places.now.items c.args.at j _ k c.args.who c.requires refl refl
