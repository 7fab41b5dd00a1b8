use Rattle.path_count.proofs.Certified.{certified_lost}
use Rattle.path_count.proofs.path_laws.certified_is_lost.Goals as goal

pub returns : goal.returns
returns c = certified_lost
