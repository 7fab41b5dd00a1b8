-- A step that is not made.
use Rattle.std.proofs.Common.{◌≡◌, ℕ, true, refl, sym, ◌∙◌}
use Rattle.apply_core.specs.declared.need.Need.{Need}
use Rattle.run_core.specs.declared.step.StepAnswer.{StepAnswer}
use Rattle.board_core.specs.Answers.{runs_in}
use Rattle.world_core.specs.declared.event.WorldAnswer.TheVariants.{Stepped}
use Rattle.world_core.specs.declared.event.EventAnswer.{EventAnswer}
use Rattle.world_core.specs.Scene.{Scene}
use Rattle.world_core.specs.Events.{step}
use Rattle.world_core.specs.Answers.{Answers, stepped, no_step, step_not_running}
use Rattle.world_core.specs.Does.{IsOver}

-- where the call runs, its run has no step to make
pub step_over : (old new : Scene) (number : ℕ) (a : EventAnswer) → Answers old (step number true) a new → runs_in old.board number ≡ true → ((need : Need) (went : StepAnswer) → a.answer ≡ Stepped need went → ⊥)
    → (runs_in new.board number ≡ true) × IsOver number old new
step_over old new number a (stepped k run after files there going moves) runs never = absurd (never _ _ refl)
step_over old new number a (no_step k run there done) runs never = (runs, record { a = a; answers = no_step k run there done; refused = refl })
step_over old new number a (step_not_running out) runs never = absurd (let both = sym runs ∙ out in cc)
