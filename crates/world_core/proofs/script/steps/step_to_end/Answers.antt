use Rattle.std.proofs.Common.{◌<◌, true, arith}
use Rattle.world_core.specs.Work.{work_of}
use Rattle.world_core.specs.Does.{IsStep, none_yet, one_more}
use Rattle.world_core.proofs.script.steps.step_to_end.Goals as goal

pub steps-init : goal.steps-init
steps-init c = (none_yet, c.requires, omega (arith, c.steps_take_work.ensures.most c.args.number c.args.world.now.runs))

-- the step that was made leaves less to do
fell : (c : goal.In-steps) → work_of c.args.number c.step_once.new.world.runs < work_of c.args.number c.steps.world.runs
fell c =
    let is : IsStep c.args.number c.steps.world c.step_once.new.world = c.step_once.ensures.made c.steps-test.true in
    c.steps_take_work.ensures.falls c.steps.world c.step_once.new.world c.args.number true is.a is.need is.went is.answers is.stepped

pub steps-preserved : goal.steps-preserved
steps-preserved c = (one_more c.steps.invariant.0 (c.step_once.ensures.made c.steps-test.true), c.step_once.ensures.runs, omega (arith, c.steps.invariant.2, fell c))

pub steps-smaller : goal.steps-smaller
steps-smaller c = fell c

pub overflow_add-count : goal.overflow_add-count
overflow_add-count c = omega (arith, c.steps.invariant.2)

pub returns : goal.returns
returns c = (c.steps.world, c.steps.invariant.0, c.step_once.ensures.over c.steps-test.false)
