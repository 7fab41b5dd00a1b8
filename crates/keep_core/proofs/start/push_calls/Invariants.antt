use Rattle.std.proofs.Common.{◌≡◌, ◌++◌}
use Rattle.keep_core.specs.First.{calls_of}
use Rattle.keep_core.proofs.start.push_calls.Given as goal

abbrev pub decreases-loop-left : goal.decreases-loop-left
decreases-loop-left l = l.left

abbrev pub invariant-loop-left : goal.invariant-loop-left
invariant-loop-left l = l.done.items ++ calls_of l.left l.op ≡ l.fn.done.items ++ calls_of l.times l.op
