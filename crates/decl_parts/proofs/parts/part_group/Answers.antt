use Rattle.path_tree.specs.Known.{constants_of}
use Rattle.path_tree.specs.Lexeme.{lexemes}
use Rattle.decl_parts.proofs.Limits.{kind_sized}
use Rattle.decl_parts.proofs.parts.part_group.Goals as goal

pub with_parts-requires : goal.with_parts-requires
with_parts-requires c =
    kind_sized (constants_of c.scope_of-scope.result.constants.now) (lexemes c.in_ok-new.rest.now) c.in_ok-kind.kind (lexemes c.in_ok-kind.rest.now) c.in_ok-kind.ensures
