use Rattle.keep_loop.proofs.Quiet.{Reads}
use Rattle.keep_loop.proofs.journal.recovered_len.Given as goal

-- whole lines, and the beginning of a line
abbrev pub invariant-loop-at : goal.invariant-loop-at
invariant-loop-at l = Reads l.file l.size l.at
