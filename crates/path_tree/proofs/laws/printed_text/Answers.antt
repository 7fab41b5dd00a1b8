use Rattle.path_tree.proofs.Printed.{printed}
use Rattle.path_tree.proofs.laws.printed_text.Goals as goal

pub returns : goal.returns
returns c = printed
