use Rattle.std.proofs.Common.{◌≡◌, ◌++◌}
use Rattle.live_core.specs.Past.{calls_of}
use Rattle.live_core.proofs.past.push_calls.Given as goal

abbrev pub invariant-loop-done : goal.invariant-loop-done
invariant-loop-done l = l.out.items ≡ l.fn.out.items ++ calls_of l.op l.done
