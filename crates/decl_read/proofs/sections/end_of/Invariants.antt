use Rattle.std.proofs.Common.{◌≡◌, length}
use Rattle.path_tree.specs.Tokens.{placed_tokens}
use Rattle.decl_read.specs.Sections.{end_of}
use Rattle.decl_read.proofs.sections.end_of.Given as goal

abbrev pub invariant-tokens : goal.invariant-tokens
invariant-tokens l = end_of l.end (placed_tokens l.rest) ≡ end_of 0 (placed_tokens l.tokens)

abbrev pub decreases-tokens : goal.decreases-tokens
decreases-tokens l = length l.rest
