use Rattle.std.proofs.Common.{◌≡◌, length}
use Rattle.path_tree.specs.Tokens.{placed_tokens}
use Rattle.decl_read.specs.Sections.{rules_at}
use Rattle.decl_read.proofs.sections.rules_at.Given as goal

abbrev pub invariant-tokens : goal.invariant-tokens
invariant-tokens l = rules_at (placed_tokens l.rest) ≡ rules_at (placed_tokens l.tokens)

abbrev pub decreases-tokens : goal.decreases-tokens
decreases-tokens l = length l.rest
