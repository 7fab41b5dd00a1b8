use Rattle.std.proofs.Common.{length}
use Rattle.table_core.proofs.hints.+push_operations.Given as goal

abbrev pub decreases-push_operations : goal.decreases-push_operations
decreases-push_operations l = length l.operations.now
