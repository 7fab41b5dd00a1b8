-- Laws of lists of events.
use Rattle.std.specs.Prelude.{◌≡◌, ◌≢◌, ℕ, ◌<◌, ◌≤◌, Bool, List, map}
use Rattle.decl_core.specs.declared.object.Object.{Object}
use Rattle.apply_core.specs.declared.reply.Failure.TheVariants as failures
use Rattle.apply_core.specs.declared.reply.Reply.TheVariants as replies
use Rattle.apply_core.specs.declared.need.Need.{Need}
use Rattle.run_core.specs.declared.step.StepAnswer.{StepAnswer}
use Rattle.page_core.specs.Lists.{Every}
use Rattle.page_core.specs.ObjectCalls.{Noted}
use Rattle.world_core.specs.declared.event.WorldAnswer.TheVariants.{Stepped}
use Rattle.world_core.specs.declared.event.EventAnswer.{EventAnswer}
use Rattle.world_core.specs.Answers.{Answers}
use Rattle.world_core.specs.Events.{WorldEvent, step}
use Rattle.world_core.specs.Scene.{Scene, Standing, IsNew}
use Rattle.world_core.specs.Plays.{Plays, finishes, HasFailedStep}
use Rattle.world_core.specs.Work.{work_of, most_work}

-- From a new world, a call fails for the device only where a step of its own was made to fail, and never
-- since a part is damaged.
abbrev pub FailsOnlyWithItsDevice : Type 0
FailsOnlyWithItsDevice =
    (o : Object) (old new : Scene) (events : List WorldEvent) (answers : List EventAnswer) → IsNew o old →
    Plays old events answers new →
    Every (λ (e : Noted). e.reply ≡ replies.Failed failures.Device → HasFailedStep e.number events answers)
    new.board.history × Every (λ (e : Noted). e.reply ≢ replies.Failed failures.Damaged) new.board.history

-- From a new world, the calls that finished, with the replies that they were given, are the history, in order.
abbrev pub RepliesAreTold : Type 0
RepliesAreTold =
    (o : Object) (old new : Scene) (events : List WorldEvent) (answers : List EventAnswer) → IsNew o old →
    Plays old events answers new →
    map (λ (e : Noted). (e.number, e.reply)) new.board.history ≡ finishes events answers

-- A step leaves its run less to do.
abbrev pub StepsTakeWork : Type 0
StepsTakeWork =
    (old new : Scene) (number : ℕ) (works : Bool) (a : EventAnswer) (need : Need) (answer : StepAnswer) →
    Answers old (step number works) a new → a.answer ≡ Stepped need answer →
    work_of number new.runs < work_of number old.runs

-- No run has more to do than the most.
abbrev pub WorkIsBounded : Type 0
WorkIsBounded = (number : ℕ) (runs : List Standing) → work_of number runs ≤ most_work
