use Rattle.std.proofs.Common.{◌≡◌, length}
use Rattle.keep_core.specs.Marks.{marked}
use Rattle.keep_core.proofs.marks.mark_all.Given as goal

abbrev pub invariant-all : goal.invariant-all
invariant-all l = marked l.row l.rest ≡ marked l.fn.row l.slips

abbrev pub decreases-all : goal.decreases-all
decreases-all l = length l.rest
