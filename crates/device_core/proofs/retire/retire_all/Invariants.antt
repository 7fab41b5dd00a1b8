use Rattle.device_core.proofs.Retiring.{Retiring}
use Rattle.device_core.proofs.retire.retire_all.Given as goal

abbrev pub invariant-loop-at : goal.invariant-loop-at
invariant-loop-at g l = Retiring g.H.Hand.makes g.H.Hand.failed g.H.Hand.agrees g.H.Hand.pending g.H.Hand.serves g.H.Hand.works_for l.fn.hand l.fn.stamps.items l.at l.stamps.items l.kept l.hand
