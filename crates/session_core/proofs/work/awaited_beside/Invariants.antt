use Rattle.std.proofs.Common.{◌≡◌}
use Rattle.session_core.proofs.work.awaited_beside.Given as goal

abbrev pub invariant-loop : goal.invariant-loop
invariant-loop g l = l.submitted ≡ l.fn.submitted
