use Rattle.std.proofs.Common.{◌≡◌, ◌+◌, ◌<◌, ◌^◌, length}
use Rattle.taken_core.specs.TakeFile.{counted, count_solid}
use Rattle.taken_core.proofs.taken.count_written.Given as goal

abbrev pub invariant-loop-byte : goal.invariant-loop-byte
invariant-loop-byte l = record {
  so_far : counted (l.count + count_solid l.rest) ≡ counted (count_solid l.bytes);
  fits : l.count < 2 ^ 64;
}

abbrev pub decreases-loop-byte : goal.decreases-loop-byte
decreases-loop-byte l = length l.rest
