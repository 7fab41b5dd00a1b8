use Rattle.std.proofs.Common.{length}
use Rattle.token_read.proofs.lookup.+constant_of.Given as goal

abbrev pub decreases-constant_of : goal.decreases-constant_of
decreases-constant_of l = length l.constants.now
