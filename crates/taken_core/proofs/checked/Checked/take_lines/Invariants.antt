use Rattle.std.proofs.Common.{length}
use Rattle.taken_core.proofs.Taking.{TakesUpTo}
use Rattle.taken_core.proofs.checked.Checked.take_lines.Given as goal

abbrev pub invariant-loop-line : goal.invariant-loop-line
invariant-loop-line l = TakesUpTo l.text l.rest l.self l.count

abbrev pub decreases-loop-line : goal.decreases-loop-line
decreases-loop-line l = length l.rest
