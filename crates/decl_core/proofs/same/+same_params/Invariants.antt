use Rattle.std.proofs.Common.{length}
use Rattle.decl_core.proofs.same.+same_params.Given as goal

abbrev pub decreases-same_params : goal.decreases-same_params
decreases-same_params l = length l.a.now
