use Rattle.std.proofs.Common.{◌≡◌, true, false, sym, ap, ◌∙◌, arith}
use Rattle.path_tree.specs.Lexeme.{lexemes}
use Rattle.decl_core.specs.ObjectMap.{object_of, objects_of, object_names}
use Rattle.token_read.specs.Names.{is_among}
use Rattle.decl_read.proofs.Files.{contents_named, next_taken, next_given, objects_pushed, names_of_forms}
use Rattle.path_tree.specs.declared.token.Symbol.TheVariants.{Object, Semicolon}
use Rattle.decl_read.proofs.Lengths.{behind_symbol, behind_name}
use Rattle.decl_read.proofs.objects.next_object.Goals as goal

pub contents-requires : goal.contents-requires
contents-requires c =
    let one = behind_symbol Object c.args.tokens.now c.in_ok-opened.opened.now c.in_ok-opened.ensures in
    let two = behind_name c.in_ok-opened.opened.now c.in_ok-own.rest.now c.in_ok-own.own.now c.in_ok-own.ensures in
    let three = behind_symbol Semicolon c.in_ok-own.rest.now c.in_ok-rest.rest.now c.in_ok-rest.ensures in
    omega (arith, c.requires)

pub returns-then-has : goal.returns-then-has
returns-then-has c =
    let has : is_among (object_names c.args.before) c.in_ok-own.own.now ≡ true = cc (c.has.ensures, c.if-has.true) in
    next_taken 131072 (objects_of c.args.before) (lexemes c.args.tokens.now) (lexemes c.in_ok-opened.opened.now) (c.in_ok-own.own.now, lexemes c.in_ok-own.rest.now) c.in_ok-opened.ensures c.in_ok-own.ensures (ap (λ ns. is_among ns c.in_ok-own.own.now) (sym (names_of_forms c.args.before)) ∙ has)

pub with-requires : goal.with-requires
with-requires c =
    let has : is_among (object_names c.args.before) c.in_ok-own.own.now ≡ false = cc (c.has.ensures, c.if-has.false) in
    let named = contents_named 131072 c.in_ok-own.own.now (lexemes c.in_ok-rest.rest.now) (object_of c.in_ok-object.object) (lexemes c.in_ok-object.rest.now) c.in_ok-object.ensures in
    ap (is_among (object_names c.args.before)) named ∙ has

pub returns : goal.returns
returns c =
    let has : is_among (object_names c.args.before) c.in_ok-own.own.now ≡ false = cc (c.has.ensures, c.if-has.false) in
    next_given 131072 (objects_of c.args.before) (objects_of c.in_ok-all.all) (lexemes c.args.tokens.now) (lexemes c.in_ok-opened.opened.now) (lexemes c.in_ok-rest.rest.now) (lexemes c.in_ok-object.rest.now) (c.in_ok-own.own.now, lexemes c.in_ok-own.rest.now) (object_of c.in_ok-object.object)
    c.in_ok-opened.ensures c.in_ok-own.ensures (ap (λ ns. is_among ns c.in_ok-own.own.now) (sym (names_of_forms c.args.before)) ∙ has) c.in_ok-rest.ensures c.in_ok-object.ensures
    (ap objects_of c.in_ok-all.ensures ∙ objects_pushed c.args.before c.in_ok-object.object)
