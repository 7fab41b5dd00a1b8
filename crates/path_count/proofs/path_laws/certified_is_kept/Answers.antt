use Rattle.path_count.proofs.Certified.{certified}
use Rattle.path_count.proofs.path_laws.certified_is_kept.Goals as goal

pub returns : goal.returns
returns c = certified
