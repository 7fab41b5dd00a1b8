-- What the text of an operation is read with, without where it lies in memory.
use Rattle.std.specs.Prelude.{ℕ, List, ◌∷◌, map, Option, Some, None}
use Rattle.std.specs.Borrow.{Bor}
use Rattle.path_tree.specs.Known.{constants_of}
use Rattle.value_core.specs.declared.kind.Elem.{Elem}
use Rattle.decl_core.specs.ObjectForm.{OperationForm}
use Rattle.token_read.specs.declared.scope.BodyScope.{BodyScope}
use Rattle.decl_core.specs.ObjectMap.{params_of, parts_of, operations_of}
use Rattle.token_read.specs.Names.{Names}

-- the names of operations
abbrev pub operation_names : List OperationForm → List (List ℕ)
operation_names operations = map (λ o. o.name) operations

-- the name of the operation itself, before those of others
abbrev pub with_own : Option (Bor (List ℕ)) → List (List ℕ) → List (List ℕ)
with_own None names = names
with_own (Some own) names = own.now ∷ names

-- the function itself, and what it replies
abbrev pub function_of : Option (Bor (List ℕ)) → Option Elem → Option (List ℕ × Elem)
function_of None result = None
function_of (Some own) None = None
function_of (Some own) (Some e) = Some (own.now, e)

abbrev pub names_of : BodyScope → Names
names_of s =
    record {
      constants = constants_of s.constants.now;
      params = params_of s.params.now;
      parts = parts_of s.parts.now;
      operations = with_own s.own (operation_names (operations_of s.operations.now));
      function = function_of s.own s.result;
    }
