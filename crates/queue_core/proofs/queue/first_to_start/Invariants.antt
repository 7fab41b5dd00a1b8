use Rattle.std.proofs.Common.{ℕ, List, take}
use Rattle.path_tree.specs.Path.{Path}
use Rattle.path_tree.specs.Trace.{Event}
use Rattle.path_count.specs.Stands.{StandsFor}
use Rattle.page_core.specs.Lists.{Every}
use Rattle.queue_core.specs.Starts.{CanStart, AreRefused}
use Rattle.queue_core.proofs.queue.first_to_start.Given as goal

abbrev pub invariant-loop-place : goal.invariant-loop-place
invariant-loop-place l = (n : ℕ) (paths : List Path) (t : List Event) → StandsFor l.counters n paths t → Every (λ w. CanStart n paths t w → ⊥) (take l.place l.waiting) × AreRefused n paths t l.refused
