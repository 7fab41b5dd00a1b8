use Rattle.path_tree.proofs.OneFault.{one_first_fault}
use Rattle.path_tree.proofs.lex.laws.one_first_fault.Goals as goal

pub returns : goal.returns
returns c = one_first_fault
