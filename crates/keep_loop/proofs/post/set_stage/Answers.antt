use Rattle.std.proofs.Common.{refl}
use Rattle.keep_loop.proofs.Slots.{restaged}
use Rattle.keep_loop.proofs.post.set_stage.Goals as goal

pub returns-clause-stage : goal.returns-clause-stage
returns-clause-stage c = λ k j. restaged c.args.places.now.items c.args.at j c.index_mut.result.now _ k c.args.stage c.requires c.index_mut.ensures.value refl refl
