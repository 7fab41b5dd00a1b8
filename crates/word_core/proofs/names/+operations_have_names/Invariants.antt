use Rattle.std.proofs.Common.{length}
use Rattle.word_core.proofs.names.+operations_have_names.Given as goal

abbrev pub decreases-operations_have_names : goal.decreases-operations_have_names
decreases-operations_have_names l = length l.operations.now
