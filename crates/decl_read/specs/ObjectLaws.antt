-- Laws of the objects of a file.
use Rattle.std.specs.Prelude.{◌≡◌, ◌↔◌, ℕ, false, List, [], ◌∷◌, ◌++◌, map}
use Rattle.path_tree.specs.declared.token.Symbol.TheVariants as symbols
use Rattle.path_tree.specs.Path.{Path}
use Rattle.path_tree.specs.Lexeme.{Lexeme, symbol, identifier, end_mark}
use Rattle.path_tree.specs.Grammar.{IsPathAt}
use Rattle.value_core.specs.declared.kind.Kind.{Kind}
use Rattle.token_read.specs.Names.{is_among}
use Rattle.token_read.specs.Series.{IsSeries}
use Rattle.decl_core.specs.ObjectForm.{OperationForm, ObjectForm}
use Rattle.decl_parts.specs.Declarations.{begins, IsConsts, IsPathItem, IsVar}
use Rattle.decl_read.specs.Declarations.{IsEntry, IsFile}
use Rattle.token_read.specs.Scopes.{operation_names}

-- An object of the grammar, but that its paths may use the names of its operations.
pub data IsObjectByOperations : List Lexeme → ObjectForm → List Lexeme → Type 0 where
  object_by : {bytes : List ℕ} {constants : List (List ℕ × ℕ)} {paths : List Path} {parts : List (List ℕ × Kind)}
      {operations : List OperationForm} {ws us vs ys rest : List Lexeme} →
      IsSeries IsConsts (begins symbols.Const) 16 [] ws constants us →
      IsSeries (IsPathItem constants (operation_names operations)) (begins symbols.Path) 16 [] us paths vs →
      IsSeries (IsVar constants) (begins symbols.Var) 16 [] vs parts ys →
      IsSeries (IsEntry constants parts) (begins symbols.Entry) 32 [] ys operations
      (symbol symbols.End ∷ symbol symbols.Semicolon ∷ rest) →
      IsObjectByOperations (symbol symbols.Object ∷ identifier bytes ∷ symbol symbols.Semicolon ∷ ws)
      (record { name = bytes; parts = parts; paths = paths; operations = operations }) rest

pub data IsNextByOperations : List ObjectForm → List Lexeme → List ObjectForm → List Lexeme → Type 0 where
  next_by : {before : List ObjectForm} {o : ObjectForm} {ws rest : List Lexeme} →
      IsObjectByOperations ws o rest → is_among (map (λ x. x.name) before) o.name ≡ false →
      IsNextByOperations before ws (before ++ o ∷ []) rest

abbrev pub IsFileByOperations : List Lexeme → List ObjectForm → Type 0
IsFileByOperations ws objects = IsSeries IsNextByOperations (begins symbols.Object) 16 [] ws objects (end_mark ∷ [])

-- the names that the paths of an object may use are those of its operations, in order
abbrev pub NamesAreOperations : Type 0
NamesAreOperations = (ws : List Lexeme) (objects : List ObjectForm) → IsFile ws objects ↔ IsFileByOperations ws objects

-- at the front of some lexemes stands this path, over these names of operations and some constants
abbrev pub IsPathOver : List (List ℕ) → Path → Type 0
IsPathOver operations e =
    (constants : List (List ℕ × ℕ)) × (ws : List Lexeme) × (to : ℕ)
    × IsPathAt (record { operations = operations; constants = constants }) ws 0 e to

abbrev pub EachOver : List (List ℕ) → List Path → Type 0
EachOver operations [] = Unit {0}
EachOver operations (e ∷ paths) = IsPathOver operations e × EachOver operations paths

-- each path of each object is one over the names of the object's operations
abbrev pub EachNamed : List ObjectForm → Type 0
EachNamed [] = Unit {0}
EachNamed (o ∷ objects) = EachOver (operation_names o.operations) o.paths × EachNamed objects

abbrev pub PathsNameOperations : Type 0
PathsNameOperations = (ws : List Lexeme) (objects : List ObjectForm) → IsFile ws objects → EachNamed objects
