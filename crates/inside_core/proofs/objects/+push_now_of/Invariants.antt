use Rattle.std.proofs.Common.{length}
use Rattle.inside_core.proofs.objects.+push_now_of.Given as goal

abbrev pub decreases-push_now_of : goal.decreases-push_now_of
decreases-push_now_of l = length l.objects.now
