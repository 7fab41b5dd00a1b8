use Rattle.std.proofs.Common.{◌-◌, ℕ, ◌<◌, ◌≤◌, length, slice_index}
use Rattle.path_tree.specs.Identifier.{IsDigit}
use Rattle.path_tree.proofs.lex.number.digits_end.Given as goal

abbrev pub invariant-loop-at : goal.invariant-loop-at
invariant-loop-at l = record {
  lower : l.from < l.at;
  upper : l.at ≤ length l.source;
  run : (k : ℕ) → l.from ≤ k → k < l.at → IsDigit (slice_index l.source k);
}

abbrev pub decreases-loop-at : goal.decreases-loop-at
decreases-loop-at l = length l.source - l.at
