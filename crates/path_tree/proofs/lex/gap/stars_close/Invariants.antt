use Rattle.std.proofs.Common.{◌-◌, ℕ, ◌<◌, ◌≤◌, length}
use Rattle.path_tree.specs.Gap.{ClosesStars}
use Rattle.path_tree.proofs.lex.gap.stars_close.Given as goal

abbrev pub invariant-loop-at : goal.invariant-loop-at
invariant-loop-at l = record {
  lower : l.from ≤ l.at;
  upper : l.at ≤ length l.source;
  none_yet : (k : ℕ) → l.from ≤ k → k < l.at → ClosesStars l.source k → ⊥;
}

abbrev pub decreases-loop-at : goal.decreases-loop-at
decreases-loop-at l = length l.source - l.at
