-- Pasts, as lines tell them.
use Rattle.std.specs.Prelude.{ℕ, zero, suc, List, [], ◌∷◌, ◌++◌}
use Rattle.std.specs.List.{flat_map}
use Rattle.path_count.specs.declared.past.PastEvent.{PastEvent}
use Rattle.path_count.specs.declared.past.PastEvent.TheVariants.{Start, End}
use Rattle.live_core.specs.declared.past.PastRun.{PastRun}
use Rattle.live_core.specs.declared.past.PastRun.TheVariants.{Calls, Begins, Ends}

-- so many calls of an operation, each of which ended before the next one
abbrev pub calls_of : ℕ → ℕ → List PastEvent
calls_of op zero = []
calls_of op (suc count) = calls_of op count ++ Start op ∷ End op ∷ []

abbrev pub events_of_run : PastRun → List PastEvent
events_of_run (Calls op count) = calls_of op count
events_of_run (Begins op) = Start op ∷ []
events_of_run (Ends op) = End op ∷ []

-- the events of a past, the oldest first
abbrev pub events_in : List PastRun → List PastEvent
events_in runs = flat_map events_of_run runs
