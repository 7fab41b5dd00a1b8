-- The lines that an object adds have their places behind its front, and tell what happened.
use Rattle.std.specs.Prelude.{◌≡◌, ℕ, List, None}
use Rattle.decl_core.specs.ObjectForm.{ObjectForm}
use Rattle.audit_core.specs.Steps.{Step, Begun, Heard}
use Rattle.audit_core.specs.EpochTells.{Tell}
use Rattle.audit_core.specs.Sound.{IsSound}
use Rattle.recover_core.specs.Lines.{AreLines, joined}
use Rattle.live_core.specs.Scene.{Scene}
use Rattle.live_core.specs.HostedSteps as hosted
use Rattle.history_law.specs.Named.{IsNamed}
use Rattle.history_law.specs.Stands.{Stands}
use Rattle.history_law.specs.Happens.{happens, all_happen}

-- what was heard where lines told these steps, and nothing runs
abbrev pub heard_of : List Step → Heard
heard_of steps = record { steps = steps; running = None }

-- A text is whole lines, which have their places behind what was heard; they tell these steps, which are sound, and just
-- what stands behind the object.
pub record AreTold (o : ObjectForm) (e : Begun) (heard : Heard) (text : List ℕ) (steps : List Step) (s : Scene) : Type 0 where
  pub lines : List (List ℕ)
  pub each : AreLines lines
  pub cut : text ≡ joined lines
  pub told : Tell o e heard lines (heard_of steps)
  pub sound : IsSound o e (heard_of steps)
  pub stands : Stands o e (heard_of steps) s

-- So are the lines of one thing that happens to an object with its clients.
abbrev pub StepIsTold : Type 0
StepIsTold =
    (o : ObjectForm) (e : Begun) (heard : Heard) (old new : Scene) (text : List ℕ) (step : hosted.Step old text new) →
    IsNamed o → Stands o e heard old → AreTold o e heard text (happens step heard.steps) new

-- So are those of more, one after the other.
abbrev pub StepsAreTold : Type 0
StepsAreTold =
    (o : ObjectForm) (e : Begun) (heard : Heard) (old new : Scene) (text : List ℕ) (all : hosted.Steps old text new) →
    IsNamed o → Stands o e heard old → AreTold o e heard text (all_happen all heard.steps) new
