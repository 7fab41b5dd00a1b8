use Rattle.std.proofs.Common.{◌≡◌}
use Rattle.table_core.proofs.objects.tell_time.Given as goal

abbrev pub invariant-loop-place : goal.invariant-loop-place
invariant-loop-place l = l.objects.items ≡ l.fn.objects.items
