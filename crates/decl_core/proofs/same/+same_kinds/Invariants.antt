use Rattle.std.proofs.Common.{length}
use Rattle.decl_core.proofs.same.+same_kinds.Given as goal

abbrev pub decreases-same_kinds : goal.decreases-same_kinds
decreases-same_kinds l = length l.a.now
