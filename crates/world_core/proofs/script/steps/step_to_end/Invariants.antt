use Rattle.std.proofs.Common.{◌≡◌, ◌≤◌, ◌+◌, true}
use Rattle.board_core.specs.Answers.{runs_in}
use Rattle.world_core.specs.Work.{work_of, most_work}
use Rattle.world_core.specs.Does.{StepsMade}
use Rattle.world_core.proofs.script.steps.step_to_end.Given as goal

abbrev pub invariant-steps : goal.invariant-steps
invariant-steps l = StepsMade l.number l.fn.world l.count l.world × (runs_in l.world.board l.number ≡ true) × (l.count + work_of l.number l.world.runs ≤ most_work)

-- what the run has still to do
abbrev pub decreases-steps : goal.decreases-steps
decreases-steps l = work_of l.number l.world.runs
