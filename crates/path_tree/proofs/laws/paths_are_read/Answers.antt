use Rattle.path_tree.proofs.ReadPaths.{front_found, front_read}
use Rattle.path_tree.proofs.laws.paths_are_read.Goals as goal

pub returns : goal.returns
returns c = λ known most ws e. (front_found known most ws e, λ to. front_read known most ws e to)
