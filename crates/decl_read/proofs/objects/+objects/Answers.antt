use Rattle.std.proofs.Common.{◌≡◌, true, false, arith}
use Rattle.std.proofs.lemmas.Result.{err_from_is_err_and}
use Rattle.path_tree.specs.declared.token.Symbol.TheVariants.{Object}
use Rattle.path_tree.specs.Lexeme.{lexemes}
use Rattle.decl_parts.specs.Declarations.{begins}
use Rattle.decl_read.specs.DeclarationReading.{next_object_in}
use Rattle.decl_read.specs.Sources.{objects_read}
use Rattle.decl_core.specs.ObjectMap.{objects_of}
use Rattle.token_read.proofs.Steps.{series_ends, none_left, item_fails, item_read}
use Rattle.decl_read.proofs.Files.{behind_object}
use Rattle.decl_read.proofs.objects.+objects.Goals as goal

pub returns-then-not-begins : goal.returns-then-not-begins
returns-then-not-begins t c =
    let is : begins Object (lexemes c.args.tokens.now) ≡ false = cc in
    series_ends (next_object_in 131072) (begins Object) c.args.left (objects_of c.args.so_far) (lexemes c.args.tokens.now) is

pub returns-then-left-eq0 : goal.returns-then-left-eq0
returns-then-left-eq0 t c =
    let is : begins Object (lexemes c.args.tokens.now) ≡ true = cc in
    none_left (next_object_in 131072) (begins Object) c.no_room.result c.args.left (objects_of c.args.so_far) (lexemes c.args.tokens.now) is (omega arith)

pub returns-in_err-so_far : goal.returns-in_err-so_far
returns-in_err-so_far t c =
    let is : begins Object (lexemes c.args.tokens.now) ≡ true = cc in
    let p = err_from_is_err_and c.from_residual.result c.from_residual.ensures.1 in
    rw (p.1, p.2) (item_fails (next_object_in 131072) (begins Object) c.in_err-so_far.field-0.0 c.args.left (objects_of c.args.so_far) (lexemes c.args.tokens.now) is (omega arith) c.in_err-so_far.ensures)

pub objects-requires : goal.objects-requires
objects-requires t c =
    let short = behind_object 131072 (objects_of c.args.so_far) (objects_of c.in_ok-so_far.so_far) c.args.tokens.now c.in_ok-so_far.rest.now c.in_ok-so_far.ensures in
    (omega arith, omega (arith, c.requires))

pub returns : goal.returns
returns t c =
    let is : begins Object (lexemes c.args.tokens.now) ≡ true = cc in
    item_read (next_object_in 131072) (begins Object) objects_read c.objects.result c.args.left (objects_of c.args.so_far) (objects_of c.in_ok-so_far.so_far) (lexemes c.args.tokens.now) (lexemes c.in_ok-so_far.rest.now) is (omega arith) c.in_ok-so_far.ensures c.objects.ensures
