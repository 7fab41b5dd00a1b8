use Rattle.std.proofs.Common.{length}
use Rattle.queue_core.proofs.open_call.+pages_in.Given as goal

abbrev pub decreases-pages_in : goal.decreases-pages_in
decreases-pages_in l = length l.lists.now
