use Rattle.std.proofs.Common.{◌≡◌, true, false, arith}
use Rattle.std.proofs.lemmas.Result.{err_from_is_err_and}
use Rattle.path_tree.specs.declared.token.Symbol.TheVariants.{Entry}
use Rattle.path_tree.specs.Known.{constants_of}
use Rattle.path_tree.specs.Lexeme.{lexemes}
use Rattle.decl_parts.specs.Declarations.{begins}
use Rattle.decl_read.specs.DeclarationReading.{entry_in}
use Rattle.decl_read.specs.Views.{operations_read}
use Rattle.decl_core.specs.ObjectMap.{operations_of, parts_of}
use Rattle.token_read.proofs.Steps.{series_ends, none_left, item_fails, item_read}
use Rattle.decl_read.proofs.entry.+entries.Goals as goal

pub returns-then-not-begins : goal.returns-then-not-begins
returns-then-not-begins t c =
    let is : begins Entry (lexemes c.args.tokens.now) ≡ false = cc in
    series_ends (entry_in 131072 (constants_of c.args.constants.now) (parts_of c.args.parts.now)) (begins Entry) c.args.left (operations_of c.args.so_far.items) (lexemes c.args.tokens.now) is

pub returns-then-left-eq0 : goal.returns-then-left-eq0
returns-then-left-eq0 t c =
    let is : begins Entry (lexemes c.args.tokens.now) ≡ true = cc in
    none_left (entry_in 131072 (constants_of c.args.constants.now) (parts_of c.args.parts.now)) (begins Entry) c.no_room.result c.args.left (operations_of c.args.so_far.items) (lexemes c.args.tokens.now) is (omega arith)

pub returns-in_err-so_far : goal.returns-in_err-so_far
returns-in_err-so_far t c =
    let is : begins Entry (lexemes c.args.tokens.now) ≡ true = cc in
    let p = err_from_is_err_and c.from_residual.result c.from_residual.ensures.1 in
    rw (p.1, p.2) (item_fails (entry_in 131072 (constants_of c.args.constants.now) (parts_of c.args.parts.now)) (begins Entry) c.in_err-so_far.field-0.0 c.args.left (operations_of c.args.so_far.items) (lexemes c.args.tokens.now) is (omega arith) c.in_err-so_far.ensures)

pub returns : goal.returns
returns t c =
    let is : begins Entry (lexemes c.args.tokens.now) ≡ true = cc in
    item_read (entry_in 131072 (constants_of c.args.constants.now) (parts_of c.args.parts.now)) (begins Entry) operations_read c.entries.result c.args.left (operations_of c.args.so_far.items) (operations_of c.in_ok-so_far.so_far.items) (lexemes c.args.tokens.now) (lexemes c.in_ok-so_far.rest.now) is (omega arith) c.in_ok-so_far.ensures c.entries.ensures
