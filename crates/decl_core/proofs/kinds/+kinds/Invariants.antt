use Rattle.std.proofs.Common.{length}
use Rattle.decl_core.proofs.kinds.+kinds.Given as goal

abbrev pub decreases-kinds : goal.decreases-kinds
decreases-kinds l = length l.parts.now
