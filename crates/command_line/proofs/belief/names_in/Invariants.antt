use Rattle.std.proofs.Common.{length}
use Rattle.command_line.proofs.Naming.{GoesOn}
use Rattle.command_line.proofs.belief.names_in.Given as goal

abbrev pub invariant-names : goal.invariant-names
invariant-names l = GoesOn l.fn.word l.left l.names.items

abbrev pub decreases-names : goal.decreases-names
decreases-names l = length l.left
