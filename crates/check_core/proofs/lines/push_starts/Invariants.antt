use Rattle.std.proofs.Common.{◌≡◌, ◌++◌, drop}
use Rattle.decl_core.specs.ObjectMap.{object_of}
use Rattle.check_core.specs.Lines.{start_lines}
use Rattle.check_core.proofs.lines.push_starts.Given as goal

abbrev pub invariant-loop-finding : goal.invariant-loop-finding
invariant-loop-finding l = record {
  at : l.op ≡ l.finding-index;
  rest : l.out.items ++ start_lines (object_of l.object) l.op (drop l.finding-index l.each) ≡ l.fn.out.items ++ start_lines (object_of l.object) 0 l.each;
}
