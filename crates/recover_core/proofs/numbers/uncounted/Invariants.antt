use Rattle.std.proofs.Common.{◌+◌, ◌≤◌, length}
use Rattle.recover_core.specs.Carried.{AreCounted}
use Rattle.recover_core.proofs.numbers.uncounted.Given as goal

abbrev pub invariant-calls : goal.invariant-calls
invariant-calls l = record {
  counted : AreCounted l.number l.rest → AreCounted 0 l.calls;
  only : AreCounted 0 l.calls → AreCounted l.number l.rest;
  few : l.number + length l.rest ≤ length l.calls;
}

abbrev pub decreases-calls : goal.decreases-calls
decreases-calls l = length l.rest
