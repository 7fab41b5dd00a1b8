use Rattle.world_core.specs.Kept.{scene_of}
use Rattle.world_core.proofs.Showing.{look_shown, look_refused}
use Rattle.world_core.proofs.stage.WorldTables.look.Goals as goal

pub returns-in-Ok-clause-answers : goal.returns-in-Ok-clause-answers
returns-in-Ok-clause-answers c = look_shown (scene_of c.args.self.now) (scene_of c.contents.new.self) c.in-Ok.values c.only.result c.only.ensures c.contents.ensures.same c.in-Ok.ensures.values

pub returns-in-Err-clause-answers : goal.returns-in-Err-clause-answers
returns-in-Err-clause-answers c = look_refused (scene_of c.args.self.now) (scene_of c.contents.new.self) c.only-in-Err.result c.only-in-Err.ensures c.contents.ensures.same
