use Rattle.std.proofs.Common.{length}
use Rattle.token_read.proofs.lookup.+param_of.Given as goal

abbrev pub decreases-param_of : goal.decreases-param_of
decreases-param_of l = length l.params.now
