use Rattle.std.proofs.Common.{◌≡◌, ◌+◌, ◌≤◌, length}
use Rattle.recover_core.specs.Lines.{line_ends}
use Rattle.recover_core.proofs.lines.line_ends.Given as goal

abbrev pub invariant-bytes : goal.invariant-bytes
invariant-bytes l = record {
  counted : l.count + line_ends l.rest ≡ line_ends l.text;
  few : l.count + length l.rest ≤ length l.text;
}

abbrev pub decreases-bytes : goal.decreases-bytes
decreases-bytes l = length l.rest
