-- What a short past has to do.
use Rattle.std.specs.Prelude.{◌≡◌, ℕ, List, []}
use Rattle.path_tree.specs.Path.{Path}
use Rattle.path_tree.specs.Trace.{running_calls}
use Rattle.path_count.specs.State.{State}
use Rattle.path_count.specs.Stands.{StandsFor}
use Rattle.path_count.specs.declared.past.PastEvent.{PastEvent}
use Rattle.path_count.specs.Past.{events_of}

-- the paths let it happen, nothing runs at its end, and it leaves these counters
pub record LeavesSame (words : List ℕ) (n_ops : ℕ) (paths : List Path) (past : List PastEvent) : Type 0 where
  pub counters : State
  pub stands : StandsFor counters n_ops paths (events_of past)
  pub quiet : running_calls (events_of past) ≡ []
  pub same : counters.words ≡ words
