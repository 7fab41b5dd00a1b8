-- What happened in an epoch, as the lines behind its front tell it.
use Rattle.std.specs.Prelude.{◌≢◌, ℕ, ◌+◌, List, [], ◌∷◌, ◌++◌, Option, None}
use Rattle.path_tree.specs.Trace.{Event}
use Rattle.value_core.specs.Contents.{Contents}
use Rattle.decl_core.specs.ObjectForm.{ObjectForm}
use Rattle.apply_core.specs.declared.reply.Reply.{Reply}
use Rattle.apply_core.specs.History.{leads_to}
use Rattle.word_core.specs.Events.{Called, Happened, began, ended, history_of}
use Rattle.path_count.specs.declared.past.PastEvent.{PastEvent}
use Rattle.path_count.specs.declared.past.PastEvent.TheVariants as past
use Rattle.path_count.specs.Past.{events_of}
use Rattle.live_core.specs.Hall.{Told, trace}

-- a call began and ended with this reply, and nothing between; a call that waited was cancelled; a session got a name
pub data Step : Type 0 where
  ran : Called → Reply → Step
  cancelled : Called → Step
  named : ℕ → List ℕ → Step

-- what an epoch began with: its past, the contents, and the calls that waited
pub record Begun : Type 0 where
  pub past : List PastEvent
  pub opening : List Contents
  pub carried : List Called

-- what happened to calls (the newest first, as the steps have it): a cancelled call never began
abbrev pub happened_of : List Step → List Happened
happened_of [] = []
happened_of (ran c reply ∷ steps) = ended c reply ∷ began c ∷ happened_of steps
happened_of (cancelled c ∷ steps) = happened_of steps
happened_of (named session client ∷ steps) = happened_of steps

-- what stands behind an object after these steps
abbrev pub told_by : Begun → List Step → Told
told_by e steps = record { past = events_of e.past; opening = e.opening; happened = happened_of steps }

-- all that happened, as paths see it
abbrev pub trace_by : Begun → List Step → List Event
trace_by e steps = trace (told_by e steps)

-- the contents where what happened leads
abbrev pub contents_by : ObjectForm → Begun → List Step → List Contents
contents_by o e steps = leads_to (history_of o (happened_of steps)) e.opening

-- the past and the starts and ends since, the oldest first
abbrev pub long_past : Begun → List Step → List PastEvent
long_past e [] = e.past
long_past e (ran c reply ∷ steps) = long_past e steps ++ past.Start c.operation ∷ past.End c.operation ∷ []
long_past e (cancelled c ∷ steps) = long_past e steps
long_past e (named session client ∷ steps) = long_past e steps

-- how many calls ended
abbrev pub ended_in : List Step → ℕ
ended_in [] = 0
ended_in (ran c reply ∷ steps) = ended_in steps + 1
ended_in (cancelled c ∷ steps) = ended_in steps
ended_in (named session client ∷ steps) = ended_in steps

-- no call of this number began or was cancelled
abbrev pub IsUnused : ℕ → List Step → Type 0
IsUnused number [] = Unit {0}
IsUnused number (ran c reply ∷ steps) = (c.number ≢ number) × IsUnused number steps
IsUnused number (cancelled c ∷ steps) = (c.number ≢ number) × IsUnused number steps
IsUnused number (named session client ∷ steps) = IsUnused number steps

-- what the lines so far told: whole steps, the newest first, and the call that has started and not ended
pub record Heard : Type 0 where
  pub steps : List Step
  pub running : Option Called

abbrev pub nothing_heard : Heard
nothing_heard = record { steps = []; running = None }
