use Rattle.path_tree.proofs.CountLaws.{counted_in}
use Rattle.path_tree.proofs.laws.activations_nest.Goals as goal

pub returns : goal.returns
returns c = counted_in
