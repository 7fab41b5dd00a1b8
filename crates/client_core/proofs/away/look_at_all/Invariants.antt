use Rattle.client_core.specs.Holding.{LooksAt}
use Rattle.client_core.proofs.Rows.{Moved}
use Rattle.client_core.proofs.away.look_at_all.Given as goal

abbrev pub invariant-loop-place : goal.invariant-loop-place
invariant-loop-place l = Moved (LooksAt l.hosted l.second) l.initial.rows.items l.rows.items l.place
