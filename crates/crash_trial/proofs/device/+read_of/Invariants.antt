use Rattle.std.proofs.Common.{length}
use Rattle.crash_trial.proofs.device.+read_of.Given as goal

abbrev pub decreases-read_of : goal.decreases-read_of
decreases-read_of l = length l.happened.now
