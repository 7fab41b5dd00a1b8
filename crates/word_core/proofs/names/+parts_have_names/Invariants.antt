use Rattle.std.proofs.Common.{length}
use Rattle.word_core.proofs.names.+parts_have_names.Given as goal

abbrev pub decreases-parts_have_names : goal.decreases-parts_have_names
decreases-parts_have_names l = length l.parts.now
