use Rattle.std.proofs.Common.{length}
use Rattle.keep_core.proofs.ending.+save_objects.Given as goal

abbrev pub decreases-save_objects : goal.decreases-save_objects
decreases-save_objects g l = length l.objects.now
