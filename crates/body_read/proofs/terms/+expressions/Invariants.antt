use Rattle.std.proofs.Common.{◌≡◌, ◌+◌, ◌-◌, ◌*◌}
use Rattle.path_tree.specs.Lexeme.{lexemes}
use Rattle.body_read.specs.Reading.{more_at}
use Rattle.decl_core.specs.View.{integers_of, total_of_list}
use Rattle.body_read.specs.Scopes.{terms_in}
use Rattle.body_read.proofs.terms.+expressions.Given as goal

abbrev pub decreases-expr : goal.decreases-expr
decreases-expr l = l.depth * 8 + 6

abbrev pub decreases-more : goal.decreases-more
decreases-more l = l.depth * 8 + 5

abbrev pub decreases-term : goal.decreases-term
decreases-term l = l.depth * 8 + 4

abbrev pub decreases-by_symbol : goal.decreases-by_symbol
decreases-by_symbol l = l.depth * 8 + 3

abbrev pub decreases-named : goal.decreases-named
decreases-named l = l.depth * 8 + 2

abbrev pub decreases-lookup : goal.decreases-lookup
decreases-lookup l = l.depth * 8 + 2

abbrev pub decreases-group : goal.decreases-group
decreases-group l = l.depth * 8 + 2

abbrev pub decreases-nested : goal.decreases-nested
decreases-nested l = l.depth * 8

abbrev pub invariant-more-loop : goal.invariant-more-loop
invariant-more-loop l =
    (l.first ≡ l.fn.first)
    × (more_at (terms_in l.scope l.depth) (l.scope.most - l.counter) (total_of_list (integers_of l.fn.first) l.terms.items) (lexemes l.rest)
    ≡ more_at (terms_in l.scope l.depth) l.scope.most (integers_of l.fn.first) (lexemes l.tokens))
