use Rattle.std.proofs.Common.{length}
use Rattle.live_core.proofs.epoch.+push_kept_below.Given as goal

abbrev pub decreases-push_kept_below : goal.decreases-push_kept_below
decreases-push_kept_below l = length l.kept.now
