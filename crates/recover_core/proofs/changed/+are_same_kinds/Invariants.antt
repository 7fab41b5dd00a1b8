use Rattle.std.proofs.Common.{length}
use Rattle.recover_core.proofs.changed.+are_same_kinds.Given as goal

abbrev pub decreases-are_same_kinds : goal.decreases-are_same_kinds
decreases-are_same_kinds l = length l.before.now
