use Rattle.std.proofs.Common.{length}
use Rattle.crash_trial.proofs.drive.Drive.+play_all.Given as goal

abbrev pub decreases-play_all : goal.decreases-play_all
decreases-play_all g l = length l.scenario.now
