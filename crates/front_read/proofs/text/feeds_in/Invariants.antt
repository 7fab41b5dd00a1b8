use Rattle.std.proofs.Common.{◌≡◌, ◌+◌, ◌≤◌, length}
use Rattle.front_read.specs.Text.{feeds_in}
use Rattle.front_read.proofs.text.feeds_in.Given as goal

abbrev pub invariant-bytes : goal.invariant-bytes
invariant-bytes l = record {
  whole : l.count + feeds_in l.rest ≡ feeds_in l.bytes;
  few : l.count + length l.rest ≤ length l.bytes;
}

abbrev pub decreases-bytes : goal.decreases-bytes
decreases-bytes l = length l.rest
