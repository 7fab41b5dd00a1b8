use Rattle.std.proofs.Common.{length}
use Rattle.inside_core.proofs.counted.+push_paths.Given as goal

abbrev pub decreases-push_paths : goal.decreases-push_paths
decreases-push_paths l = length l.paths.now
