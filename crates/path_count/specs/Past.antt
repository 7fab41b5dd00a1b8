-- A past, as paths see it.
use Rattle.std.specs.Prelude.{ℕ, ◌+◌, ◌<◌, ◌==◌, if◌then◌else◌, List, [], ◌∷◌, fold}
use Rattle.path_tree.specs.Trace.{Call, Event, Start, End, running_calls}
use Rattle.path_count.specs.Stands.{started_calls}
use Rattle.path_count.specs.declared.past.PastEvent.{PastEvent}
use Rattle.path_count.specs.declared.past.PastEvent.TheVariants as past

-- an epoch has the numbers up to this one; the calls of a past have greater ones
abbrev pub most_numbers : ℕ
most_numbers = 65536

-- the first of these calls of an operation
abbrev pub call_of : ℕ → List Call → Call
call_of op [] = record { number = 0; operation = op }
call_of op (c ∷ calls) = if c.operation == op then c else call_of op calls

-- one event more: a new call starts, or the call of the operation ends that started last
abbrev pub with_event : List Event → PastEvent → List Event
with_event t (past.Start op) = Start (record { number = (most_numbers + 1) + started_calls t; operation = op }) ∷ t
with_event t (past.End op) = End (call_of op (running_calls t)) ∷ t

-- the events of a past, the newest first
abbrev pub events_of : List PastEvent → List Event
events_of all = fold with_event [] all

-- each call has a number past those of an epoch
abbrev pub AreBefore : List Event → Type 0
AreBefore [] = Unit {0}
AreBefore (Start call ∷ t) = (most_numbers < call.number) × AreBefore t
AreBefore (End call ∷ t) = AreBefore t
