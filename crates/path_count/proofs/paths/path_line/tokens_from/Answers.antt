use Rattle.std.proofs.Common.{sym, ap, ◌∙◌}
use Rattle.std.proofs.lemmas.List.{drop-map}
use Rattle.path_tree.specs.Lexeme.{lexemes, lexeme_of}
use Rattle.path_tree.specs.Tokens.{placed, placed_tokens}
use Rattle.path_count.proofs.paths.path_line.tokens_from.Goals as goal

pub returns-clause-lexemes : goal.returns-clause-lexemes
returns-clause-lexemes c = ap lexemes c.split_at.ensures.back ∙ sym (drop-map (λ t. lexeme_of t.kind) c.args.at c.args.tokens.now)

pub returns-clause-places : goal.returns-clause-places
returns-clause-places c = ap placed_tokens c.split_at.ensures.back ∙ sym (drop-map placed c.args.at c.args.tokens.now)
