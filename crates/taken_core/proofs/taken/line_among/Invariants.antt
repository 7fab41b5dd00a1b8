use Rattle.std.proofs.Common.{ℕ, ◌<◌, ◌^◌, length}
use Rattle.keep_loop.specs.Journal.{whole}
use Rattle.keep_loop.specs.Taken.{cut}
use Rattle.taken_core.specs.TakeFile.{IsPlaceOf}
use Rattle.taken_core.proofs.taken.line_among.Given as goal

-- the line that is looked for among what is left is the one that is looked for among all
abbrev pub invariant-loop-next : goal.invariant-loop-next
invariant-loop-next l = record {
  on : (place : ℕ) → IsPlaceOf (cut (whole l.rest)) l.left l.number place → IsPlaceOf (cut (whole l.text)) l.line 1 place;
  fits : l.number < 2 ^ 64;
}

abbrev pub decreases-loop-next : goal.decreases-loop-next
decreases-loop-next l = length l.rest
