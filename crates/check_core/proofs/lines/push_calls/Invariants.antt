use Rattle.std.proofs.Common.{◌≡◌, ◌++◌, length}
use Rattle.decl_core.specs.ObjectMap.{object_of}
use Rattle.check_core.specs.Lines.{calls_text}
use Rattle.check_core.proofs.lines.push_calls.Given as goal

abbrev pub invariant-calls : goal.invariant-calls
invariant-calls l = l.out.items ++ calls_text (object_of l.object) l.rest ≡ l.fn.out.items ++ calls_text (object_of l.object) l.calls

abbrev pub decreases-calls : goal.decreases-calls
decreases-calls l = length l.rest
