use Rattle.std.proofs.Common.{◌≡◌, true, false, arith}
use Rattle.std.proofs.lemmas.Result.{err_from_is_err_and}
use Rattle.path_tree.specs.declared.token.Symbol.TheVariants.{Comma}
use Rattle.decl_core.specs.HoldMap.{holds_of}
use Rattle.decl_core.specs.ObjectMap.{operations_of}
use Rattle.decl_parts.specs.Declarations.{begins}
use Rattle.decl_read.specs.HoldReading.{next_undo_in}
use Rattle.decl_read.specs.HeldViews.{numbers_read}
use Rattle.path_tree.specs.Lexeme.{lexemes}
use Rattle.token_read.proofs.Steps.{series_ends, series_over, item_fails, item_read}
use Rattle.decl_read.proofs.holds.+more_undos.Goals as goal

pub returns-then-not-begins : goal.returns-then-not-begins
returns-then-not-begins t c =
    let is : begins Comma (lexemes c.args.tokens.now) ≡ false = cc in
    series_ends (next_undo_in (operations_of c.args.operations.now) (holds_of c.args.holds.now) c.args.op) (begins Comma) c.args.left (c.args.so_far.items) (lexemes c.args.tokens.now) is

pub returns-then-left-eq0 : goal.returns-then-left-eq0
returns-then-left-eq0 t c =
    let is : begins Comma (lexemes c.args.tokens.now) ≡ true = cc in
    series_over (next_undo_in (operations_of c.args.operations.now) (holds_of c.args.holds.now) c.args.op) (begins Comma) c.args.left (c.args.so_far.items) (lexemes c.args.tokens.now) is (omega arith)

pub returns-in_err-one : goal.returns-in_err-one
returns-in_err-one t c =
    let is : begins Comma (lexemes c.args.tokens.now) ≡ true = cc in
    let p = err_from_is_err_and c.from_residual.result c.from_residual.ensures.1 in
    rw (p.1, p.2) (item_fails (next_undo_in (operations_of c.args.operations.now) (holds_of c.args.holds.now) c.args.op) (begins Comma) c.in_err-one.field-0.0 c.args.left (c.args.so_far.items) (lexemes c.args.tokens.now) is (omega arith) c.in_err-one.ensures)

pub returns : goal.returns
returns t c =
    let is : begins Comma (lexemes c.args.tokens.now) ≡ true = cc in
    item_read (next_undo_in (operations_of c.args.operations.now) (holds_of c.args.holds.now) c.args.op) (begins Comma) numbers_read c.more_undos.result c.args.left (c.args.so_far.items) (c.in_ok-one.one.items) (lexemes c.args.tokens.now) (lexemes c.in_ok-one.rest.now) is (omega arith) c.in_ok-one.ensures c.more_undos.ensures
