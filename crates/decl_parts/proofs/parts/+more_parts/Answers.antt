use Rattle.std.proofs.Common.{◌≡◌, true, false, arith}
use Rattle.std.proofs.lemmas.Result.{err_from_is_err_and}
use Rattle.path_tree.specs.Known.{constants_of}
use Rattle.path_tree.specs.Lexeme.{lexemes}
use Rattle.decl_parts.specs.Declarations.{begins_name}
use Rattle.decl_parts.specs.DeclarationReading.{part_group_in}
use Rattle.decl_core.specs.ObjectMap.{parts_of}
use Rattle.decl_parts.specs.Views.{parts_read}
use Rattle.token_read.proofs.Steps.{series_ends, series_over, item_fails, item_read}
use Rattle.decl_parts.proofs.parts.+more_parts.Goals as goal

pub returns-then-not-begins_name-clause-read : goal.returns-then-not-begins_name-clause-read
returns-then-not-begins_name-clause-read t c =
    let is : begins_name (lexemes c.args.tokens.now) ≡ false = cc in
    series_ends (part_group_in (constants_of c.args.constants.now)) begins_name c.args.left (parts_of c.args.so_far.items) (lexemes c.args.tokens.now) is

pub returns-then-left-eq0-clause-read : goal.returns-then-left-eq0-clause-read
returns-then-left-eq0-clause-read t c =
    let is : begins_name (lexemes c.args.tokens.now) ≡ true = cc in
    series_over (part_group_in (constants_of c.args.constants.now)) begins_name c.args.left (parts_of c.args.so_far.items) (lexemes c.args.tokens.now) is (omega arith)

pub returns-in_err-one-clause-read : goal.returns-in_err-one-clause-read
returns-in_err-one-clause-read t c =
    let is : begins_name (lexemes c.args.tokens.now) ≡ true = cc in
    let p = err_from_is_err_and c.from_residual.result c.from_residual.ensures.1 in
    rw (p.1, p.2) (item_fails (part_group_in (constants_of c.args.constants.now)) begins_name c.in_err-one.field-0.0 c.args.left (parts_of c.args.so_far.items) (lexemes c.args.tokens.now) is (omega arith) c.in_err-one.ensures.read)

pub returns-clause-read : goal.returns-clause-read
returns-clause-read t c =
    let is : begins_name (lexemes c.args.tokens.now) ≡ true = cc in
    item_read (part_group_in (constants_of c.args.constants.now)) begins_name parts_read c.more_parts.result c.args.left (parts_of c.args.so_far.items) (parts_of c.in_ok-one.one.items) (lexemes c.args.tokens.now) (lexemes c.in_ok-one.rest.now) is (omega arith) c.in_ok-one.ensures.read c.more_parts.ensures.read
