use Rattle.std.proofs.Common.{◌≡◌, ◌++◌, length}
use Rattle.decl_core.specs.ObjectMap.{object_of}
use Rattle.check_core.specs.Lines.{names_text}
use Rattle.check_core.proofs.lines.push_names.Given as goal

abbrev pub invariant-ops : goal.invariant-ops
invariant-ops l = l.out.items ++ names_text (object_of l.object) l.rest ≡ l.fn.out.items ++ names_text (object_of l.object) l.ops

abbrev pub decreases-ops : goal.decreases-ops
decreases-ops l = length l.rest
