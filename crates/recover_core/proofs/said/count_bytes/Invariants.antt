use Rattle.std.proofs.Common.{◌≡◌, ◌+◌, ◌≤◌, length}
use Rattle.recover_core.specs.Stray.{solid_bytes}
use Rattle.recover_core.proofs.said.count_bytes.Given as goal

abbrev pub invariant-bytes : goal.invariant-bytes
invariant-bytes l = record {
  counted : l.count + solid_bytes l.rest ≡ solid_bytes l.bytes;
  few : l.count + length l.rest ≤ length l.bytes;
}

abbrev pub decreases-bytes : goal.decreases-bytes
decreases-bytes l = length l.rest
