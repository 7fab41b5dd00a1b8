use Rattle.path_count.proofs.KeptApart.{kept_apart}
use Rattle.path_count.proofs.path_laws.semicolons_apart.Goals as goal

pub returns : goal.returns
returns c = kept_apart
