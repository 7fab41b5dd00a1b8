use Rattle.std.specs.Map.{values_of}
use Rattle.check_core.proofs.Sorting.{IsSorted}
use Rattle.check_core.proofs.judge.sort_all.Given as goal

abbrev pub invariant-loop-object : goal.invariant-loop-object
invariant-loop-object l = IsSorted (values_of l.fn.all.entries) l.object-iterator l.sorted.ready.items l.sorted.told.items
