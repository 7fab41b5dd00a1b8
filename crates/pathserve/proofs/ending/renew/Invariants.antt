use Rattle.table_core.specs.Moves.{Fronts}
use Rattle.pathserve.specs.Kept.{AreRenewed}
use Rattle.pathserve.proofs.ending.renew.Given as goal

abbrev pub invariant-loop-at : goal.invariant-loop-at
invariant-loop-at g l = AreRenewed (Fronts l.fn.table) (g.O.Outside.seen l.fn.outside) (g.O.Outside.seen l.outside)
