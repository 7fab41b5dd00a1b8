use Rattle.std.proofs.Common.{arith}
use Rattle.path_tree.proofs.Steps.{parts_none, nested_none}
use Rattle.path_tree.proofs.nest.+reading.Goals as goal

pub list-returns-then-left-eq0 : goal.list-returns-then-left-eq0
list-returns-then-left-eq0 t c = parts_none _ _ _ _ _ (omega arith)

pub sequence-returns-then-left-eq0 : goal.sequence-returns-then-left-eq0
sequence-returns-then-left-eq0 t c = parts_none _ _ _ _ _ (omega arith)

pub nested-returns-then-depth-eq0 : goal.nested-returns-then-depth-eq0
nested-returns-then-depth-eq0 t c = nested_none _ _ _ _ _ (omega arith)
