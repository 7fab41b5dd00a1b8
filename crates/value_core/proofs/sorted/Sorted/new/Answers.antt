use Rattle.std.proofs.Common.{sym, subst}
use Rattle.value_core.specs.Sorted.{Rise}
use Rattle.value_core.proofs.Placing.{rise_none}
use Rattle.value_core.proofs.sorted.Sorted.new.Goals as goal

pub invariant_of-result : goal.invariant_of-result
invariant_of-result g c = subst Rise (sym c.new.ensures.items) (rise_none g.row.X.Denot)
