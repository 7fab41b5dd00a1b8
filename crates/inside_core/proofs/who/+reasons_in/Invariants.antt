use Rattle.std.proofs.Common.{length}
use Rattle.inside_core.proofs.who.+reasons_in.Given as goal

abbrev pub decreases-reasons_in : goal.decreases-reasons_in
decreases-reasons_in l = length l.known.now
