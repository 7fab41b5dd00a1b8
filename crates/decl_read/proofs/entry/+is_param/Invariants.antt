use Rattle.std.proofs.Common.{length}
use Rattle.decl_read.proofs.entry.+is_param.Given as goal

abbrev pub decreases-is_param : goal.decreases-is_param
decreases-is_param l = length l.params.now
