use Rattle.std.proofs.Common.{length}
use Rattle.front_read.proofs.call.+place_in.Given as goal

abbrev pub decreases-place_in : goal.decreases-place_in
decreases-place_in l = length l.operations.now
