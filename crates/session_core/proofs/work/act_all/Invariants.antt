use Rattle.session_core.specs.Truth.{Keeps, AreTrue}
use Rattle.session_core.specs.Working.{WorksOn}
use Rattle.session_core.proofs.work.act_all.Given as goal

abbrev pub invariant-loop-action : goal.invariant-loop-action
invariant-loop-action g l =
    Keeps g.H.Hand.agrees l.fn.worked.hand l.worked.hand × (AreTrue g.H.Hand.agrees l.fn.worked.hand l.fn.worked.receipts.items → AreTrue g.H.Hand.agrees l.worked.hand l.worked.receipts.items)
    × WorksOn g.H.Hand.makes l.fn.worked.hand l.fn.worked.free.items l.worked.hand l.worked.free.items
