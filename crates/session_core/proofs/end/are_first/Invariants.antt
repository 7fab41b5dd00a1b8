use Rattle.std.proofs.Common.{◌↔◌, length}
use Rattle.session_core.specs.Written.{AreFirst}
use Rattle.session_core.proofs.end.are_first.Given as goal

abbrev pub invariant-loop-note : goal.invariant-loop-note
invariant-loop-note l = AreFirst l.receipts l.notes ↔ AreFirst l.fn.receipts l.fn.notes

abbrev pub decreases-loop-note : goal.decreases-loop-note
decreases-loop-note l = length l.notes
