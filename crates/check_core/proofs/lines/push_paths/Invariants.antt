use Rattle.std.proofs.Common.{◌≡◌, ◌+◌, ◌++◌, drop}
use Rattle.decl_core.specs.ObjectMap.{object_of}
use Rattle.check_core.specs.Lines.{wait_lines_in}
use Rattle.check_core.proofs.lines.push_paths.Given as goal

abbrev pub invariant-loop-tree : goal.invariant-loop-tree
invariant-loop-tree l = record {
  at : l.path ≡ 1 + l.tree-index;
  rest : l.out.items ++ wait_lines_in (object_of l.object) l.op l.path (drop l.tree-index l.paths) ≡ l.fn.out.items ++ wait_lines_in (object_of l.object) l.op 1 l.paths;
}
