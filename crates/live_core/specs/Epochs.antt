-- How one epoch of an object is followed by another one.
use Rattle.std.specs.Prelude.{◌≡◌, ℕ, ◌+◌, ◌*◌, List, [], ◌∷◌, length}
use Rattle.path_tree.specs.Trace.{running_calls}
use Rattle.path_count.specs.State.{State}
use Rattle.path_count.specs.Stands.{StandsFor, started_calls}
use Rattle.value_core.specs.Contents.{Contents}
use Rattle.decl_core.specs.ObjectForm.{ObjectForm}
use Rattle.word_core.specs.Events.{Called}
use Rattle.path_count.specs.declared.past.PastEvent.{PastEvent}
use Rattle.path_count.specs.Past.{events_of, AreBefore}
use Rattle.live_core.specs.Hall.{Hall, Told}

-- an epoch in which nothing has happened, behind this past and with these contents
abbrev pub told_behind : List PastEvent → List Contents → Told
told_behind past contents = record { past = events_of past; opening = contents; happened = [] }

-- A past that leaves the counters of another one: the paths let it happen, nothing runs at its end, and its calls have
-- numbers above those of an epoch.
pub record IsShortOf (o : ObjectForm) (old : State) (past : List PastEvent) (counters : State) : Type 0 where
  pub stands : StandsFor counters (length o.operations) o.paths (events_of past)
  pub quiet : running_calls (events_of past) ≡ []
  pub before : AreBefore (events_of past)
  pub starts : 2 * started_calls (events_of past) ≡ length past
  pub same : counters.words ≡ old.words

-- calls with the numbers behind this one, in their order
abbrev pub numbered_from : ℕ → List Called → List Called
numbered_from n [] = []
numbered_from n (c ∷ calls) = record c { number = n + 1 } ∷ numbered_from (n + 1) calls

-- An epoch more has begun behind this past: its counters are what the paths had counted, the contents are as they were,
-- and the calls that wait have the numbers from 1.
pub record IsBegun (old : Hall) (past : List PastEvent) (new : Hall) : Type 0 where
  pub object : new.object ≡ old.object
  pub sessions : new.sessions ≡ old.sessions
  pub room : new.room ≡ old.room
  pub contents : new.contents ≡ old.contents
  pub counted : new.counters.words ≡ old.counters.words
  pub waiting : new.waiting ≡ numbered_from 0 old.waiting
  pub given : new.given ≡ length old.waiting
  pub calls : 2 * new.before ≡ length past
