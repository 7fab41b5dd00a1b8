use Rattle.std.proofs.Common.{◌-◌, ◌≤◌, length}
use Rattle.path_tree.specs.Gap.{IsGap}
use Rattle.path_tree.proofs.lex.gap.skip_gap.Given as goal

abbrev pub invariant-loop-at : goal.invariant-loop-at
invariant-loop-at l = record { upper : l.at ≤ length l.source; so_far : IsGap l.source l.from l.at }

abbrev pub decreases-loop-at : goal.decreases-loop-at
decreases-loop-at l = length l.source - l.at
