use Rattle.session_core.specs.Truth.{Keeps, AreTrue}
use Rattle.session_core.specs.Working.{WorksOn}
use Rattle.session_core.proofs.work.take_steps.Given as goal

abbrev pub invariant-loop : goal.invariant-loop
invariant-loop g l =
    Keeps g.H.Hand.agrees l.fn.worked.hand l.worked.hand × (AreTrue g.H.Hand.agrees l.fn.worked.hand l.fn.worked.receipts.items → AreTrue g.H.Hand.agrees l.worked.hand l.worked.receipts.items)
    × WorksOn g.H.Hand.makes l.fn.worked.hand l.fn.worked.free.items l.worked.hand l.worked.free.items
