-- What counters tell of the trace for which they stand.
use Rattle.std.specs.Prelude.{ℕ, ◌≤◌, List}
use Rattle.path_tree.specs.Path.{Path}
use Rattle.path_tree.specs.Trace.{Event, IsTrace}
use Rattle.path_tree.specs.Satisfies.{SatisfiesAll}
use Rattle.path_count.specs.State.{State}
use Rattle.path_count.specs.Stands.{StandsFor, started_calls}

-- it is a trace of at most 65,536 calls that satisfies every path
abbrev pub StandsForSatisfying : Type 0
StandsForSatisfying = (c : State) (n_ops : ℕ) (paths : List Path) (t : List Event) → StandsFor c n_ops paths t →
    IsTrace t × SatisfiesAll paths t × (started_calls t ≤ 65536)
