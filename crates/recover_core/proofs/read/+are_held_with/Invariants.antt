use Rattle.std.proofs.Common.{length}
use Rattle.recover_core.proofs.read.+are_held_with.Given as goal

abbrev pub decreases-are_held_with : goal.decreases-are_held_with
decreases-are_held_with l = length l.params.now
