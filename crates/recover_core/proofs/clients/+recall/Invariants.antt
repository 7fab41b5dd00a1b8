use Rattle.std.proofs.Common.{length}
use Rattle.recover_core.proofs.clients.+recall.Given as goal

abbrev pub decreases-recall : goal.decreases-recall
decreases-recall l = length l.kept.now
