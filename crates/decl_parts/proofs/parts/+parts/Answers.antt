use Rattle.std.proofs.Common.{◌≡◌, true, false, arith}
use Rattle.std.proofs.lemmas.Result.{err_from_is_err_and}
use Rattle.path_tree.specs.declared.token.Symbol.TheVariants.{Var}
use Rattle.path_tree.specs.Known.{constants_of}
use Rattle.path_tree.specs.Lexeme.{lexemes}
use Rattle.decl_parts.specs.Declarations.{begins}
use Rattle.decl_parts.specs.DeclarationReading.{var_in}
use Rattle.decl_core.specs.ObjectMap.{parts_of}
use Rattle.decl_parts.specs.Views.{parts_read}
use Rattle.token_read.proofs.Steps.{series_ends, none_left, item_fails, item_read}
use Rattle.decl_parts.proofs.parts.+parts.Goals as goal

pub returns-then-not-begins-clause-read : goal.returns-then-not-begins-clause-read
returns-then-not-begins-clause-read t c =
    let is : begins Var (lexemes c.args.tokens.now) ≡ false = cc in
    series_ends (var_in (constants_of c.args.constants.now)) (begins Var) c.args.left (parts_of c.args.so_far.items) (lexemes c.args.tokens.now) is

pub returns-then-left-eq0-clause-read : goal.returns-then-left-eq0-clause-read
returns-then-left-eq0-clause-read t c =
    let is : begins Var (lexemes c.args.tokens.now) ≡ true = cc in
    none_left (var_in (constants_of c.args.constants.now)) (begins Var) c.no_room.result c.args.left (parts_of c.args.so_far.items) (lexemes c.args.tokens.now) is (omega arith)

pub returns-in_err-one-clause-read : goal.returns-in_err-one-clause-read
returns-in_err-one-clause-read t c =
    let is : begins Var (lexemes c.args.tokens.now) ≡ true = cc in
    let p = err_from_is_err_and c.from_residual.result c.from_residual.ensures.1 in
    rw (p.1, p.2) (item_fails (var_in (constants_of c.args.constants.now)) (begins Var) c.in_err-one.field-0.0 c.args.left (parts_of c.args.so_far.items) (lexemes c.args.tokens.now) is (omega arith) c.in_err-one.ensures.read)

pub returns-clause-read : goal.returns-clause-read
returns-clause-read t c =
    let is : begins Var (lexemes c.args.tokens.now) ≡ true = cc in
    item_read (var_in (constants_of c.args.constants.now)) (begins Var) parts_read c.parts.result c.args.left (parts_of c.args.so_far.items) (parts_of c.in_ok-one.one.items) (lexemes c.args.tokens.now) (lexemes c.in_ok-one.rest.now) is (omega arith) c.in_ok-one.ensures.read c.parts.ensures.read
