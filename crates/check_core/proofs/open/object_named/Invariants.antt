use Rattle.std.specs.Map.{values_of}
use Rattle.check_core.proofs.Looking.{Looked}
use Rattle.check_core.proofs.open.object_named.Given as goal

abbrev pub invariant-loop-object : goal.invariant-loop-object
invariant-loop-object l = Looked (values_of l.fn.all.entries) l.object-iterator l.fn.name
