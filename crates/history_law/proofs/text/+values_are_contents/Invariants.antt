use Rattle.std.proofs.Common.{length}
use Rattle.history_law.proofs.text.+values_are_contents.Given as goal

abbrev pub decreases-values_are_contents : goal.decreases-values_are_contents
decreases-values_are_contents l = length l.values.now
