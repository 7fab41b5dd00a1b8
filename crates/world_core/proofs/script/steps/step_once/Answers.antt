use Rattle.std.proofs.Common.{true, ◌≡◌}
use Rattle.world_core.specs.Does.{IsOver}
use Rattle.board_core.specs.Answers.{runs_in}
use Rattle.world_core.proofs.ScriptStepping.{step_over}
use Rattle.world_core.proofs.script.steps.step_once.Goals as goal

pub returns : goal.returns
returns c =
    let over : (runs_in c.event.new.self.board c.args.number ≡ true) × IsOver c.args.number c.args.world.now c.event.new.self =
    step_over c.args.world.now c.event.new.self c.args.number c.event.result c.event.ensures c.requires c.in_default.not-Stepped in
    record { runs = over.0; made = λ is. absurd cc; over = λ is. over.1 }
