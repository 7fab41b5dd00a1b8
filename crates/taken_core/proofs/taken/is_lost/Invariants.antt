use Rattle.std.proofs.Common.{length}
use Rattle.keep_loop.specs.Taken.{HasMore}
use Rattle.taken_core.proofs.taken.is_lost.Given as goal

-- what is left has such a line just where all have one
abbrev pub invariant-loop-more : goal.invariant-loop-more
invariant-loop-more l = record {
  on : HasMore l.text l.written → HasMore l.rest l.written;
  back : HasMore l.rest l.written → HasMore l.text l.written;
}

abbrev pub decreases-loop-more : goal.decreases-loop-more
decreases-loop-more l = length l.rest
