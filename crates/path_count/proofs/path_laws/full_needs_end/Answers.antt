use Rattle.path_count.proofs.NeedsEnd.{full}
use Rattle.path_count.proofs.path_laws.full_needs_end.Goals as goal

pub returns : goal.returns
returns c = full
