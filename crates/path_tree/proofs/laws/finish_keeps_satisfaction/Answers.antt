use Rattle.path_tree.proofs.CountLaws.{end_satisfies}
use Rattle.path_tree.proofs.laws.finish_keeps_satisfaction.Goals as goal

pub returns : goal.returns
returns c = end_satisfies
