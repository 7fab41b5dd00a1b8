use Rattle.std.proofs.Common.{length}
use Rattle.table_core.proofs.hints.+push_listed.Given as goal

abbrev pub decreases-push_listed : goal.decreases-push_listed
decreases-push_listed l = length l.params.now
