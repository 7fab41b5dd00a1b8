use Rattle.std.proofs.Common.{◌-◌, ◌≤◌, length}
use Rattle.path_tree.specs.Tokens.{Tokens, placed_tokens}
use Rattle.path_tree.proofs.lex.scan.Given as goal

abbrev pub invariant-loop-tokens : goal.invariant-loop-tokens
invariant-loop-tokens l = record {
  upper : l.at ≤ length l.source;
  so_far : Tokens l.source 0 (placed_tokens l.tokens.items) l.at;
}

abbrev pub decreases-loop-tokens : goal.decreases-loop-tokens
decreases-loop-tokens l = length l.source - l.at
