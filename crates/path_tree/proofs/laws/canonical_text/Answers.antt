use Rattle.path_tree.proofs.OneTree.{canonical_at, canonical_only}
use Rattle.path_tree.proofs.laws.canonical_text.Goals as goal

pub returns : goal.returns
returns c = λ known e rest rules distinct named. (canonical_at known e rest rules distinct named, canonical_only known e rest rules distinct named)
