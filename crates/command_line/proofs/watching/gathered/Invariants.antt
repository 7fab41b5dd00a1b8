use Rattle.std.proofs.Common.{length}
use Rattle.command_line.specs.Watching.{texts}
use Rattle.command_line.proofs.Sorting.{Gathers}
use Rattle.command_line.proofs.watching.gathered.Given as goal

abbrev pub invariant-words : goal.invariant-words
invariant-words l = Gathers (texts l.fn.words) l.stage l.found (texts l.left)

abbrev pub decreases-words : goal.decreases-words
decreases-words l = length l.left
