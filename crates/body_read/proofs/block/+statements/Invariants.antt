use Rattle.std.proofs.Common.{◌≡◌, ◌+◌, ◌-◌, ◌*◌}
use Rattle.path_tree.specs.Lexeme.{lexemes}
use Rattle.decl_core.specs.Form.{nothing}
use Rattle.body_read.specs.StatementReading.{statements_at}
use Rattle.decl_core.specs.View.{all_of}
use Rattle.body_read.specs.Scopes.{inner_in}
use Rattle.body_read.proofs.block.+statements.Given as goal

abbrev pub decreases-statement : goal.decreases-statement
decreases-statement l = l.depth * 8 + 7

abbrev pub decreases-by_symbol : goal.decreases-by_symbol
decreases-by_symbol l = l.depth * 8 + 6

abbrev pub decreases-block : goal.decreases-block
decreases-block l = l.depth * 8 + 5

abbrev pub decreases-choice : goal.decreases-choice
decreases-choice l = l.depth * 8 + 5

abbrev pub decreases-statements : goal.decreases-statements
decreases-statements l = l.depth * 8 + 4

abbrev pub decreases-other : goal.decreases-other
decreases-other l = l.depth * 8 + 4

abbrev pub decreases-inner : goal.decreases-inner
decreases-inner l = l.depth * 8

abbrev pub invariant-statements-loop : goal.invariant-statements-loop
invariant-statements-loop l =
    statements_at (inner_in l.scope l.depth) (l.scope.most - l.counter) (all_of l.done.items) (lexemes l.rest)
    ≡ statements_at (inner_in l.scope l.depth) l.scope.most nothing (lexemes l.tokens)
