-- What paths have counted, of all together and of each by itself.
use Rattle.std.specs.Prelude.{ℕ, List}
use Rattle.path_tree.specs.Path.{Path}
use Rattle.path_tree.specs.Trace.{Event}
use Rattle.path_count.specs.State.{State}
use Rattle.path_count.specs.Stands.{StandsFor}
use Rattle.audit_core.specs.Counting.{AreCounters}

pub record Counted (all : State) (each : List State) (n_ops : ℕ) (paths : List Path) (t : List Event) : Type 0 where
  pub together : StandsFor all n_ops paths t
  pub apart : AreCounters each n_ops paths t
