use Rattle.std.proofs.Common.{◌≡◌, true, false, arith}
use Rattle.std.proofs.lemmas.Result.{err_from_is_err_and}
use Rattle.decl_core.specs.HoldMap.{holds_of}
use Rattle.decl_core.specs.ObjectMap.{operations_of}
use Rattle.decl_read.specs.declared.words.HoldKeyword.TheVariants as words
use Rattle.decl_read.specs.Words.{begins_word}
use Rattle.decl_read.specs.HoldReading.{hold_in}
use Rattle.decl_read.specs.HeldViews.{holds_read}
use Rattle.path_tree.specs.Lexeme.{lexemes}
use Rattle.token_read.proofs.Steps.{series_ends, series_over, item_fails, item_read}
use Rattle.decl_read.proofs.holds.+holds.Goals as goal

pub returns-then-not-begins_word : goal.returns-then-not-begins_word
returns-then-not-begins_word t c =
    let is : begins_word words.Hold (lexemes c.args.tokens.now) ≡ false = cc in
    series_ends (hold_in (operations_of c.args.operations.now)) (begins_word words.Hold) c.args.left (holds_of c.args.so_far.items) (lexemes c.args.tokens.now) is

pub returns-then-left-eq0 : goal.returns-then-left-eq0
returns-then-left-eq0 t c =
    let is : begins_word words.Hold (lexemes c.args.tokens.now) ≡ true = cc in
    series_over (hold_in (operations_of c.args.operations.now)) (begins_word words.Hold) c.args.left (holds_of c.args.so_far.items) (lexemes c.args.tokens.now) is (omega arith)

pub returns-in_err-so_far : goal.returns-in_err-so_far
returns-in_err-so_far t c =
    let is : begins_word words.Hold (lexemes c.args.tokens.now) ≡ true = cc in
    let p = err_from_is_err_and c.from_residual.result c.from_residual.ensures.1 in
    rw (p.1, p.2) (item_fails (hold_in (operations_of c.args.operations.now)) (begins_word words.Hold) c.in_err-so_far.field-0.0 c.args.left (holds_of c.args.so_far.items) (lexemes c.args.tokens.now) is (omega arith) c.in_err-so_far.ensures)

pub returns : goal.returns
returns t c =
    let is : begins_word words.Hold (lexemes c.args.tokens.now) ≡ true = cc in
    item_read (hold_in (operations_of c.args.operations.now)) (begins_word words.Hold) holds_read c.holds.result c.args.left (holds_of c.args.so_far.items) (holds_of c.in_ok-so_far.so_far.items) (lexemes c.args.tokens.now) (lexemes c.in_ok-so_far.rest.now) is (omega arith) c.in_ok-so_far.ensures c.holds.ensures
