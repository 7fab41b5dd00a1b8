use Rattle.std.proofs.Common.{◌≢◌, ℕ, ◌<◌, List}
use Rattle.std.specs.Prelude.{slice_index}
use Rattle.path_tree.specs.Path.{Path}
use Rattle.path_tree.specs.Trace.{Event}
use Rattle.path_count.specs.Stands.{StandsFor}
use Rattle.queue_core.specs.Starts.{OpCanStart}
use Rattle.queue_core.proofs.queue.others_rest.Given as goal

abbrev pub invariant-loop-op : goal.invariant-loop-op
invariant-loop-op l = (n : ℕ) (paths : List Path) (t : List Event) → StandsFor l.counters n paths t → (k : ℕ) → k < l.op → slice_index l.counts k ≢ 0 → k ≢ l.last → OpCanStart n paths t k → ⊥
