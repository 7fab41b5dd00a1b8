use Rattle.std.proofs.Common.{length}
use Rattle.inside_core.proofs.server.+push_journals.Given as goal

abbrev pub decreases-push_journals : goal.decreases-push_journals
decreases-push_journals l = length l.journals.now
