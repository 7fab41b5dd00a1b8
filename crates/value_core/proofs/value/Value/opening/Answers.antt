use Rattle.std.proofs.Common.{subst}
use Rattle.value_core.specs.Kinds.{IsKind}
use Rattle.value_core.proofs.Openings.{zeros_are, none_are, empty_are}
use Rattle.value_core.proofs.value.Value.opening.Goals as goal
use Rattle.value_core.proofs.value.Value.opening.Goals.{in-Array+in_ok-zeros-in-Array, in-Queue, in-Table}

pub invariant_of-result : goal.invariant_of-result
invariant_of-result c =
    elim c.match-kind.branch [
      | in-Array+in_ok-zeros-in-Array w ↦ rw (w.body-is, w.in_ok-zeros-in-Array.ensures.sort, w.in_ok-zeros-in-Array.ensures.data) (zeros_are w.in-Array.sort w.in-Array.count (subst IsKind w.in-Array.is c.requires))
      | in-Queue w ↦ rw (w.body-is, w.new.ensures.sort, w.new.ensures.data) (none_are w.in-Queue.sort)
      | in-Table w ↦ rw (w.body-is, w.new-in-Table.ensures.sort, w.new-in-Table.ensures.data) (empty_are w.in-Table.sort)
    ]
