use Rattle.std.proofs.Common.{◌≡◌, ◌-◌, ◌++◌}
use Rattle.decl_core.specs.ObjectMap.{object_of}
use Rattle.check_core.specs.Lines.{wait_lines}
use Rattle.check_core.proofs.lines.push_all_waits.Given as goal

abbrev pub invariant-loop-op : goal.invariant-loop-op
invariant-loop-op l = l.out.items ++ wait_lines (object_of l.object) l.op (l.count - l.op) ≡ l.fn.out.items ++ wait_lines (object_of l.object) 0 l.count
