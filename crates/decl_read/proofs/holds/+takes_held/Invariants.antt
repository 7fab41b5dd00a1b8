use Rattle.std.proofs.Common.{length}
use Rattle.decl_read.proofs.holds.+takes_held.Given as goal

abbrev pub decreases-takes_held : goal.decreases-takes_held
decreases-takes_held l = length l.held.now
