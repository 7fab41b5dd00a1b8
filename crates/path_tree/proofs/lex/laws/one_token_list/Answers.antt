use Rattle.path_tree.proofs.TokenLists.{one_list}
use Rattle.path_tree.proofs.lex.laws.one_token_list.Goals as goal

pub returns : goal.returns
returns c = one_list
