use Rattle.std.proofs.Common.{◌≡◌}
use Rattle.std.specs.Prelude.{take}
use Rattle.path_count.specs.Stands.{StandsFor, started_calls}
use Rattle.path_count.specs.Past.{events_of}
use Rattle.path_count.specs.Numbers.{IsNumbered}
use Rattle.path_count.proofs.past.counters_behind.Given as goal

abbrev pub invariant-loop-place : goal.invariant-loop-place
invariant-loop-place l =
    StandsFor l.counters l.n_ops l.paths (events_of (take l.place l.past)) × IsNumbered (events_of (take l.place l.past))
    × (started_calls (events_of (take l.place l.past)) ≡ l.starts)
