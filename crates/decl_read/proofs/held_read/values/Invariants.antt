use Rattle.std.proofs.Common.{◌≡◌, ◌++◌}
use Rattle.std.specs.Map.{values_of}
use Rattle.decl_read.proofs.held_read.values.Given as goal

abbrev pub invariant-loop-object : goal.invariant-loop-object
invariant-loop-object l = values_of l.fn.all.entries ≡ l.objects.items ++ l.object-iterator
