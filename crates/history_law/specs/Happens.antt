-- What happens to an object with its clients, as the steps that lines tell.
use Rattle.std.specs.Prelude.{ℕ, List, [], ◌∷◌, Option, Some, None, Result, Ok, Err, slice_get, if◌then◌else◌}
use Rattle.word_core.specs.Events.{Called}
use Rattle.live_core.specs.declared.call.Ran.{Ran}
use Rattle.guest_core.specs.declared.guests.Entered.{Entered}
use Rattle.guest_core.specs.declared.guests.EnterFault.{EnterFault}
use Rattle.guest_core.specs.declared.seats.SeatHolder.{SeatHolder}
use Rattle.guest_core.specs.declared.seats.SeatHolder.TheVariants.{Void, Free, Nameless, Named, Retired}
use Rattle.audit_core.specs.Steps.{Step, ran, cancelled, named}
use Rattle.live_core.specs.Scene.{Scene}
use Rattle.live_core.specs.HostedSteps as hosted

-- these calls ran, one after the other, behind these steps
abbrev pub with_ran : List Ran → List Step → List Step
with_ran [] steps = steps
with_ran (r ∷ all) steps = with_ran all (ran r.call r.reply ∷ steps)

-- a client came: where its name is new, its session got it
abbrev pub with_entered : List ℕ → Result Entered EnterFault → List Step → List Step
with_entered name (Ok a) steps = if a.is_new then named a.session name ∷ steps else steps
with_entered name (Err fault) steps = steps

-- a call that waited is cancelled: a line tells of it where its session has a name
abbrev pub with_cancelled : Option SeatHolder → Called → List Step → List Step
with_cancelled (Some (Named place)) c steps = cancelled c ∷ steps
with_cancelled (Some Void) c steps = steps
with_cancelled (Some Free) c steps = steps
with_cancelled (Some Nameless) c steps = steps
with_cancelled (Some Retired) c steps = steps
with_cancelled None c steps = steps

-- what one thing that happens puts in front of the steps before it, the newest first; a session that gets a number or
-- leaves is not told of
abbrev pub happens : {old new : Scene} {lines : List ℕ} → hosted.Step old lines new → List Step → List Step
happens (hosted.comes name now a guests is_name enters) steps = with_entered name a steps
happens (hosted.gets_number session least) steps = steps
happens (hosted.leaves session now was_here guests left) steps = steps
happens (hosted.calls session operation arguments a does) steps = with_ran a.ran.items steps
happens {old = old} (hosted.cancels session told lines gone) steps =
    with_cancelled (slice_get old.guests.seats session) gone.call steps

-- what more of them do
abbrev pub all_happen : {old new : Scene} {lines : List ℕ} → hosted.Steps old lines new → List Step → List Step
all_happen hosted.rests steps = steps
all_happen (hosted.does step) steps = happens step steps
all_happen (hosted.goes_on first more) steps = all_happen more (all_happen first steps)
