use Rattle.path_count.proofs.Drains.{one_path}
use Rattle.path_count.proofs.path_laws.one_path_is_kept.Goals as goal

pub returns : goal.returns
returns c = one_path
