use Rattle.std.proofs.Common.{length}
use Rattle.live_core.proofs.hosted.Hosted.+remember_all.Given as goal

abbrev pub decreases-remember_all : goal.decreases-remember_all
decreases-remember_all l = length l.all.now
