use Rattle.std.proofs.Common.{◌≡◌, length}
use Rattle.path_tree.specs.Tokens.{placed_tokens}
use Rattle.decl_read.specs.Sections.{behind_object}
use Rattle.decl_read.proofs.sections.behind_object.Given as goal

abbrev pub invariant-tokens : goal.invariant-tokens
invariant-tokens l = behind_object (placed_tokens l.rest) ≡ behind_object (placed_tokens l.tokens)

abbrev pub decreases-tokens : goal.decreases-tokens
decreases-tokens l = length l.rest
