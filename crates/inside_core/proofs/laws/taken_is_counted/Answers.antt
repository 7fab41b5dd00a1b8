use Rattle.inside_core.proofs.Counting.{taken_counted}
use Rattle.inside_core.proofs.laws.taken_is_counted.Goals as goal

pub returns : goal.returns
returns c = taken_counted
