use Rattle.std.proofs.Common.{length}
use Rattle.world_core.proofs.answer.+is_needed.Given as goal

abbrev pub decreases-is_needed : goal.decreases-is_needed
decreases-is_needed l = length l.reasons.now
