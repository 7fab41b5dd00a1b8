use Rattle.world_core.specs.Counted.{StandsAfter}
use Rattle.world_core.proofs.replay.counters_of.Given as goal

abbrev pub invariant-loop-place : goal.invariant-loop-place
invariant-loop-place l = StandsAfter l.desk l.place l.counters
