use Rattle.std.proofs.Common.{length}
use Rattle.keep_core.proofs.ending.+save_parts.Given as goal

abbrev pub decreases-save_parts : goal.decreases-save_parts
decreases-save_parts g l = length l.parts.now
