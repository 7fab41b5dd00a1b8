use Rattle.path_tree.proofs.Faults.{no_tokens}
use Rattle.path_tree.proofs.lex.laws.fault_or_tokens.Goals as goal

pub returns : goal.returns
returns c = no_tokens
