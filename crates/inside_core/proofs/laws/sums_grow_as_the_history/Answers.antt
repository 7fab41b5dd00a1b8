use Rattle.inside_core.proofs.Counting.{sums_grow}
use Rattle.inside_core.proofs.laws.sums_grow_as_the_history.Goals as goal

pub returns : goal.returns
returns c = sums_grow
