use Rattle.std.proofs.Common.{◌≡◌, true, false, arith}
use Rattle.std.proofs.lemmas.Result.{err_from_is_err_and}
use Rattle.path_tree.specs.declared.token.Symbol.TheVariants.{Const}
use Rattle.path_tree.specs.Known.{constants_of}
use Rattle.path_tree.specs.Lexeme.{lexemes}
use Rattle.decl_parts.specs.Declarations.{begins}
use Rattle.decl_parts.specs.DeclarationReading.{consts_in}
use Rattle.decl_parts.specs.Views.{constants_read}
use Rattle.token_read.proofs.Steps.{series_ends, none_left, item_fails, item_read}
use Rattle.decl_parts.proofs.constants.+constants.Goals as goal

pub returns-then-not-begins : goal.returns-then-not-begins
returns-then-not-begins t c =
    let is : begins Const (lexemes c.args.tokens.now) ≡ false = cc in
    series_ends consts_in (begins Const) c.args.left (constants_of c.args.so_far.items) (lexemes c.args.tokens.now) is

pub returns-then-left-eq0 : goal.returns-then-left-eq0
returns-then-left-eq0 t c =
    let is : begins Const (lexemes c.args.tokens.now) ≡ true = cc in
    none_left consts_in (begins Const) c.no_room.result c.args.left (constants_of c.args.so_far.items) (lexemes c.args.tokens.now) is (omega arith)

pub returns-in_err-one : goal.returns-in_err-one
returns-in_err-one t c =
    let is : begins Const (lexemes c.args.tokens.now) ≡ true = cc in
    let p = err_from_is_err_and c.from_residual.result c.from_residual.ensures.1 in
    rw (p.1, p.2) (item_fails consts_in (begins Const) c.in_err-one.field-0.0 c.args.left (constants_of c.args.so_far.items) (lexemes c.args.tokens.now) is (omega arith) c.in_err-one.ensures)

pub returns : goal.returns
returns t c =
    let is : begins Const (lexemes c.args.tokens.now) ≡ true = cc in
    item_read consts_in (begins Const) constants_read c.constants.result c.args.left (constants_of c.args.so_far.items) (constants_of c.in_ok-one.one.items) (lexemes c.args.tokens.now) (lexemes c.in_ok-one.rest.now) is (omega arith) c.in_ok-one.ensures c.constants.ensures
