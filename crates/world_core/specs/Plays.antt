-- Lists of events.
use Rattle.std.specs.Prelude.{◌≡◌, ℕ, ◌⊎◌, false, List, [], ◌∷◌}
use Rattle.apply_core.specs.declared.reply.Reply.{Reply}
use Rattle.apply_core.specs.declared.need.Need.{Need}
use Rattle.run_core.specs.declared.step.StepAnswer.TheVariants as steps
use Rattle.device_core.specs.declared.hand.HandFault.TheVariants as faults
use Rattle.world_core.specs.declared.event.WorldAnswer.{WorldAnswer}
use Rattle.world_core.specs.declared.event.WorldAnswer.TheVariants.{Number, Stepped, Ended, Cancel, Dropped, Resumed, Kept}
use Rattle.world_core.specs.declared.event.WorldAnswer.TheVariants.{Shown, Refused}
use Rattle.world_core.specs.declared.event.EventAnswer.{EventAnswer}
use Rattle.world_core.specs.Events.{WorldEvent, call, call_key, step, finish, cancel, leave, resume, look}
use Rattle.world_core.specs.Scene.{Scene}
use Rattle.world_core.specs.Answers.{Answers}

-- events one after another, each with its answer, from a world to a world
abbrev pub Plays : Scene → List WorldEvent → List EventAnswer → Scene → Type 0
Plays old [] [] new = new ≡ old
Plays old (e ∷ events) (a ∷ answers) new = (mid : Scene) × Answers old e a mid × Plays mid events answers new
Plays old [] (a ∷ answers) new = ⊥
Plays old (e ∷ events) [] new = ⊥

-- one more, if a finish was answered by an end
abbrev pub if_ended : WorldEvent → WorldAnswer → List (ℕ × Reply) → List (ℕ × Reply)
if_ended (finish number) (Ended reply) more = (number, reply) ∷ more
if_ended (finish number) (Number n) more = more
if_ended (finish number) (Stepped need answer) more = more
if_ended (finish number) (Cancel answer) more = more
if_ended (finish number) Dropped more = more
if_ended (finish number) Resumed more = more
if_ended (finish number) (Kept made) more = more
if_ended (finish number) (Shown values) more = more
if_ended (finish number) (Refused refusal) more = more
if_ended (call asked) answer more = more
if_ended (call_key asked key) answer more = more
if_ended (step number works) answer more = more
if_ended (cancel number) answer more = more
if_ended (leave session) answer more = more
if_ended (resume session) answer more = more
if_ended look answer more = more

-- the calls that finished in these events, in order, each with the reply that it was given
abbrev pub finishes : List WorldEvent → List EventAnswer → List (ℕ × Reply)
finishes [] answers = []
finishes (e ∷ events) [] = []
finishes (e ∷ events) (a ∷ answers) = if_ended e a.answer (finishes events answers)

-- this is a step of that call that was not to work, and its run failed in it
abbrev pub IsFailedStep : ℕ → WorldEvent → EventAnswer → Type 0
IsFailedStep number e a =
    (e ≡ step number false) × ((need : Need) × (a.answer ≡ Stepped need (steps.Failed faults.Device)))

-- a step of this call was made to fail, in these events
abbrev pub HasFailedStep : ℕ → List WorldEvent → List EventAnswer → Type 0
HasFailedStep number [] answers = ⊥
HasFailedStep number (e ∷ events) [] = ⊥
HasFailedStep number (e ∷ events) (a ∷ answers) = IsFailedStep number e a ⊎ HasFailedStep number events answers
