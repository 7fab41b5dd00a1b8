use Rattle.value_core.proofs.Placing.{rise_copied}
use Rattle.value_core.proofs.sorted.Sorted.copy.Goals as goal

pub invariant_of-result : goal.invariant_of-result
invariant_of-result g c = rise_copied _ _ _ c.in_ok-clone.ensures.cases.0 c.self.invariant
