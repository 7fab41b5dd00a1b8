use Rattle.std.proofs.Common.{◌≡◌, length}
use Rattle.keep_loop.specs.Journal.{whole}
use Rattle.keep_loop.specs.Taken.{cut, has_check}
use Rattle.keep_loop.proofs.head.has_check.Given as goal

abbrev pub invariant-loop-line : goal.invariant-loop-line
invariant-loop-line l = has_check (cut (whole l.rest)) ≡ has_check (cut (whole l.text))

abbrev pub decreases-loop-line : goal.decreases-loop-line
decreases-loop-line l = length l.rest
