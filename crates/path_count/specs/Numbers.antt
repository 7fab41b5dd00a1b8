-- How the calls of a past are numbered.
use Rattle.std.specs.Prelude.{ℕ, ◌+◌, ◌≤◌, List}
use Rattle.path_tree.specs.Trace.{Event, IsFresh}
use Rattle.path_count.specs.Stands.{started_calls}
use Rattle.path_count.specs.Past.{most_numbers}

-- the numbers from the next one on are those of no call
abbrev pub IsNumbered : List Event → Type 0
IsNumbered t = (number : ℕ) → (most_numbers + 1) + started_calls t ≤ number → IsFresh number t
