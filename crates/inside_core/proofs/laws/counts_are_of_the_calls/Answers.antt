use Rattle.inside_core.proofs.Counting.{counts_are}
use Rattle.inside_core.proofs.laws.counts_are_of_the_calls.Goals as goal

pub returns : goal.returns
returns c = counts_are
