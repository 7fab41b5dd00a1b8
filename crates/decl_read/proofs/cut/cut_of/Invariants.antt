use Rattle.std.proofs.Common.{◌≡◌, length}
use Rattle.path_tree.specs.Tokens.{placed_tokens}
use Rattle.decl_read.specs.Sections.{cut_by}
use Rattle.decl_read.proofs.cut.cut_of.Given as goal

abbrev pub invariant-tokens : goal.invariant-tokens
invariant-tokens l = cut_by (placed_tokens l.rest) l.all.items ≡ cut_by (placed_tokens l.tokens) l.source

abbrev pub decreases-tokens : goal.decreases-tokens
decreases-tokens l = length l.rest
