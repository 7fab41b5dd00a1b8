use Rattle.std.proofs.Common.{◌≡◌}
use Rattle.recover_core.proofs.clients.run_of.Given as goal

abbrev pub invariant-loop-call : goal.invariant-loop-call
invariant-loop-call l = l.count ≡ l.call-index
