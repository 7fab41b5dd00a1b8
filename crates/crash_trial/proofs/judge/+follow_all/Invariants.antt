use Rattle.std.proofs.Common.{length}
use Rattle.crash_trial.proofs.judge.+follow_all.Given as goal

abbrev pub decreases-follow_all : goal.decreases-follow_all
decreases-follow_all l = length l.happened.now
