use Rattle.std.proofs.Common.{◌+◌, ◌-◌, ◌≤◌, length}
use Rattle.path_tree.specs.Tokens.{IsContent, most_string_bytes}
use Rattle.path_tree.proofs.lex.text.read_string.Given as goal

abbrev pub invariant-loop-content : goal.invariant-loop-content
invariant-loop-content l = record {
  upper : l.at ≤ length l.source;
  so_far : IsContent l.source (l.start + 1) l.content.items l.at;
  few : length l.content.items ≤ most_string_bytes;
}

abbrev pub decreases-loop-content : goal.decreases-loop-content
decreases-loop-content l = length l.source - l.at
