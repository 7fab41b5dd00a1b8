use Rattle.std.proofs.Common.{◌∷◌, Some, ap}
use Rattle.path_tree.specs.Lexeme.{lexemes}
use Rattle.path_tree.specs.Known.{constants_of}
use Rattle.token_read.specs.Names.{Names}
use Rattle.token_read.specs.Scopes.{operation_names}
use Rattle.decl_core.specs.ObjectMap.{operations_of, params_of, parts_of}
use Rattle.body_read.proofs.Operations.{body_typed}
use Rattle.decl_read.proofs.entry.function.Goals as goal

pub with_operation-requires-clause-typed : goal.with_operation-requires-clause-typed
with_operation-requires-clause-typed c =
    let names : Names = record {
      constants = constants_of c.args.constants.now;
      params = params_of c.deref-3.result.now;
      parts = parts_of c.args.parts.now;
      operations = c.in_ok-own.own.now ∷ operation_names (operations_of c.deref-4.result.now);
      function = Some (c.in_ok-own.own.now, c.in_ok-sort.sort);
    } in
    body_typed names 131072 c.in_ok-given.given.items c.in_ok-statements.statements.items (lexemes c.in_ok-rest-3.rest.now) (lexemes c.in_ok-statements.rest.now) c.in_ok-statements.ensures (ap params_of c.deref-3.ensures.value)
