use Rattle.std.proofs.Common.{length}
use Rattle.inside_core.proofs.objects.+push_calls_of.Given as goal

abbrev pub decreases-push_calls_of : goal.decreases-push_calls_of
decreases-push_calls_of l = length l.objects.now
