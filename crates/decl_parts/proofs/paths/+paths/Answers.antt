use Rattle.std.proofs.Common.{◌≡◌, true, false, arith}
use Rattle.std.proofs.lemmas.Result.{err_from_is_err_and}
use Rattle.path_tree.specs.declared.token.Symbol.TheVariants.{Path}
use Rattle.path_tree.specs.Known.{constants_of}
use Rattle.path_tree.specs.Lexeme.{lexemes}
use Rattle.decl_parts.specs.Declarations.{begins}
use Rattle.decl_parts.specs.DeclarationReading.{path_item_in}
use Rattle.decl_parts.specs.Views.{paths_read}
use Rattle.token_read.proofs.Steps.{series_ends, series_over, item_fails, item_read}
use Rattle.decl_parts.proofs.PathItems.{shorter_behind}
use Rattle.decl_parts.proofs.paths.+paths.Goals as goal

pub returns-then-not-begins : goal.returns-then-not-begins
returns-then-not-begins t c =
    let is : begins Path (lexemes c.args.tokens.now) ≡ false = cc in
    series_ends (path_item_in (constants_of c.args.constants.now) c.args.names.now) (begins Path) c.args.left c.args.so_far.items (lexemes c.args.tokens.now) is

pub returns-then-left-eq0 : goal.returns-then-left-eq0
returns-then-left-eq0 t c =
    let is : begins Path (lexemes c.args.tokens.now) ≡ true = cc in
    series_over (path_item_in (constants_of c.args.constants.now) c.args.names.now) (begins Path) c.args.left c.args.so_far.items (lexemes c.args.tokens.now) is (omega arith)

pub returns-in_err-so_far : goal.returns-in_err-so_far
returns-in_err-so_far t c =
    let is : begins Path (lexemes c.args.tokens.now) ≡ true = cc in
    let p = err_from_is_err_and c.from_residual.result c.from_residual.ensures.1 in
    rw (p.1, p.2) (item_fails (path_item_in (constants_of c.args.constants.now) c.args.names.now) (begins Path) c.in_err-so_far.field-0.0 c.args.left c.args.so_far.items (lexemes c.args.tokens.now) is (omega arith) c.in_err-so_far.ensures)

pub paths-requires : goal.paths-requires
paths-requires t c =
    let short = shorter_behind (constants_of c.args.constants.now) c.args.names.now c.args.so_far.items c.args.tokens.now c.in_ok-so_far.rest.now c.in_ok-so_far.so_far.items c.in_ok-so_far.ensures in
    (omega arith, (c.requires.few, omega (arith, c.requires.bounded)))

pub returns : goal.returns
returns t c =
    let is : begins Path (lexemes c.args.tokens.now) ≡ true = cc in
    item_read (path_item_in (constants_of c.args.constants.now) c.args.names.now) (begins Path) paths_read c.paths.result c.args.left c.args.so_far.items c.in_ok-so_far.so_far.items (lexemes c.args.tokens.now) (lexemes c.in_ok-so_far.rest.now) is (omega arith) c.in_ok-so_far.ensures c.paths.ensures
