use Rattle.std.proofs.Common.{length}
use Rattle.decl_read.proofs.entry.+is_parameter.Given as goal

abbrev pub decreases-is_parameter : goal.decreases-is_parameter
decreases-is_parameter l = length l.operations.now
