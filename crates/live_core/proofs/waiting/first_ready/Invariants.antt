use Rattle.std.proofs.Common.{ℕ, List, ◌<◌}
use Rattle.path_tree.specs.Path.{Path}
use Rattle.path_tree.specs.Trace.{Event}
use Rattle.path_count.specs.Stands.{StandsFor}
use Rattle.live_core.specs.Waiters.{IsReadyAt}
use Rattle.live_core.proofs.waiting.first_ready.Given as goal

abbrev pub invariant-loop-operation : goal.invariant-loop-operation
invariant-loop-operation l = (n : ℕ) (paths : List Path) (t : List Event) → StandsFor l.counters n paths t → IsReadyAt n paths t (λ o. o < l.operation) l.waiting l.best
