use Rattle.apply_core.specs.There.{last_key}
use Rattle.apply_core.proofs.Strips.{RowsSoFar}
use Rattle.apply_core.proofs.strip.are_rows.Given as goal

abbrev pub invariant-loop-place : goal.invariant-loop-place
invariant-loop-place l = RowsSoFar l.bytes l.rest l.sort l.place (last_key l.first l.last)
