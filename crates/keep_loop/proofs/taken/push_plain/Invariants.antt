use Rattle.std.proofs.Common.{◌≡◌, ◌++◌, length}
use Rattle.keep_loop.specs.Journal.{whole}
use Rattle.keep_loop.specs.Taken.{cut, plain}
use Rattle.keep_loop.proofs.taken.push_plain.Given as goal

abbrev pub invariant-loop-line : goal.invariant-loop-line
invariant-loop-line l = l.out.items ++ plain (cut (whole l.rest)) ≡ l.fn.out.items ++ plain (cut (whole l.text))

abbrev pub decreases-loop-line : goal.decreases-loop-line
decreases-loop-line l = length l.rest
