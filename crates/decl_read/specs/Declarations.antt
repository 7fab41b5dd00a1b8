-- What an entry, an object and a file are, by the productions of their grammar.
use Rattle.std.specs.Prelude.{◌≡◌, ℕ, ◌<◌, Bool, true, false, List, [], ◌∷◌, ◌++◌, length, map}
use Rattle.std.specs.Prelude.{is_some, ◌||◌, ◌&&◌, if◌then◌else◌, Some, None}
use Rattle.path_tree.specs.declared.token.Symbol.{Symbol}
use Rattle.path_tree.specs.declared.token.Symbol.TheVariants as symbols
use Rattle.path_tree.specs.Path.{Path}
use Rattle.path_tree.specs.Lexeme.{Lexeme, symbol, number, identifier, string, end_mark, same_symbol}
use Rattle.value_core.specs.declared.kind.Elem.{Elem}
use Rattle.value_core.specs.declared.kind.Kind.{Kind}
use Rattle.decl_read.specs.declared.collect.Opening.{Opening}
use Rattle.decl_read.specs.declared.collect.Opening.TheVariants as openings
use Rattle.decl_core.specs.Form.{Statements}
use Rattle.token_read.specs.Scopes.{operation_names}
use Rattle.token_read.specs.Names.{Names, found_in, is_among, is_known}
use Rattle.token_read.specs.Series.{IsSeries}
use Rattle.body_read.specs.Statements.{IsStmts}
use Rattle.decl_core.specs.ObjectForm.{OperationForm, ObjectForm, operation_with}
use Rattle.decl_parts.specs.Declarations.{begins, IsConsts, IsPathItem, IsElem, IsVar, with_params, IsParams}

-- a parameter of one of these operations has this name
abbrev pub is_parameter : List OperationForm → List ℕ → Bool
is_parameter [] bytes = false
is_parameter (o ∷ operations) bytes = is_some (found_in o.params bytes) || is_parameter operations bytes

-- the names declared before an operation
abbrev pub names_before : List (List ℕ × ℕ) → List (List ℕ × Kind) → List OperationForm → Names
names_before constants parts before =
    record { constants = constants; params = []; parts = parts; operations = operation_names before; function = None }

-- the names declared in an operation: its own too
abbrev pub names_within : List (List ℕ × ℕ) → List (List ℕ × Kind) → List OperationForm → List ℕ → Names
names_within constants parts before own =
    record {
      constants = constants;
      params = [];
      parts = parts;
      operations = own ∷ operation_names before;
      function = None;
    }

-- the names declared in the body of a function: that of its result too
abbrev pub names_in_function : Names → List ℕ → Elem → Names
names_in_function names own e = record names { function = Some (own, e) }

-- entry = "entry" "procedure" name [ params ] ";" block ";"
--       | "entry" "function" name [ params ] ":" elem ";" block ";"
-- a new name, which no parameter has, one of at most 32
pub data IsEntry (constants : List (List ℕ × ℕ)) (parts : List (List ℕ × Kind)) : List OperationForm → List Lexeme →
    List OperationForm → List Lexeme → Type 0 where
  a_procedure : {before : List OperationForm} {own : List ℕ} {params : List (List ℕ × Elem)} {all : Statements}
      {ws vs rest : List Lexeme} →
      is_known (names_before constants parts before) own ≡ false → is_parameter before own ≡ false →
      length before < 32 →
      IsParams (names_within constants parts before own) ws params (symbol symbols.Semicolon ∷ symbol symbols.Begin
      ∷ vs) →
      IsStmts (with_params (names_within constants parts before own) params) 31 vs all
      (symbol symbols.Semicolon ∷ rest) →
      IsEntry constants parts before (symbol symbols.Entry ∷ symbol symbols.Procedure ∷ identifier own ∷ ws)
      (before ++ operation_with parts own params None all ∷ []) rest
  a_function : {before : List OperationForm} {own : List ℕ} {params : List (List ℕ × Elem)} {all : Statements}
      {s : Symbol} {e : Elem} {ws vs rest : List Lexeme} →
      is_known (names_before constants parts before) own ≡ false → is_parameter before own ≡ false →
      length before < 32 →
      IsParams (names_within constants parts before own) ws params (symbol symbols.Colon ∷ symbol s
      ∷ symbol symbols.Semicolon ∷ symbol symbols.Begin ∷ vs) → IsElem s e →
      IsStmts (names_in_function (with_params (names_within constants parts before own) params) own e) 31 vs all
      (symbol symbols.Semicolon ∷ rest) →
      IsEntry constants parts before (symbol symbols.Entry ∷ symbol symbols.Function ∷ identifier own ∷ ws)
      (before ++ operation_with parts own params (Some e) all ∷ []) rest

abbrev pub is_entry : Opening → Bool
is_entry openings.Nothing = false
is_entry openings.Entry = true
is_entry openings.Operation = false

-- what follows a lexeme: `entry`, or one of the two words behind it
abbrev pub opening_after : Opening → Lexeme → Opening
opening_after opening (symbol s) =
    if same_symbol s symbols.Entry then openings.Entry
    else if is_entry opening && (same_symbol s symbols.Procedure || same_symbol s symbols.Function) then
    openings.Operation else openings.Nothing
opening_after opening (number n) = openings.Nothing
opening_after opening (identifier bytes) = openings.Nothing
opening_after opening (string bytes) = openings.Nothing
opening_after opening end_mark = openings.Nothing

-- the name that stands directly behind `entry procedure` or `entry function`
abbrev pub name_behind : Opening → Lexeme → List (List ℕ)
name_behind openings.Nothing w = []
name_behind openings.Entry w = []
name_behind openings.Operation (identifier bytes) = bytes ∷ []
name_behind openings.Operation (symbol s) = []
name_behind openings.Operation (number n) = []
name_behind openings.Operation (string bytes) = []
name_behind openings.Operation end_mark = []

abbrev pub is_object_word : Lexeme → Bool
is_object_word (symbol s) = same_symbol s symbols.Object
is_object_word (number n) = false
is_object_word (identifier bytes) = false
is_object_word (string bytes) = false
is_object_word end_mark = false

-- The names that a path may use: the identifiers that directly follow `entry procedure` or `entry function`, up to
-- the next word `object`.
abbrev pub entry_names : Opening → List Lexeme → List (List ℕ)
entry_names opening [] = []
entry_names opening (w ∷ ws) =
    if is_object_word w then [] else name_behind opening w ++ entry_names (opening_after opening w) ws

-- object = "object" name ";" { consts } { path ";" } { parts } { entry } "end" ";"
pub data IsObject : List Lexeme → ObjectForm → List Lexeme → Type 0 where
  object : {bytes : List ℕ} {constants : List (List ℕ × ℕ)} {paths : List Path} {parts : List (List ℕ × Kind)}
      {operations : List OperationForm} {ws us vs ys rest : List Lexeme} →
      IsSeries IsConsts (begins symbols.Const) 16 [] ws constants us →
      IsSeries (IsPathItem constants (entry_names openings.Nothing ws)) (begins symbols.Path) 16 [] us paths vs →
      IsSeries (IsVar constants) (begins symbols.Var) 16 [] vs parts ys →
      IsSeries (IsEntry constants parts) (begins symbols.Entry) 32 [] ys operations
      (symbol symbols.End ∷ symbol symbols.Semicolon ∷ rest) →
      IsObject (symbol symbols.Object ∷ identifier bytes ∷ symbol symbols.Semicolon ∷ ws)
      (record { name = bytes; parts = parts; paths = paths; operations = operations }) rest

-- an object of another name than those before
pub data IsNextObject : List ObjectForm → List Lexeme → List ObjectForm → List Lexeme → Type 0 where
  next_object : {before : List ObjectForm} {o : ObjectForm} {ws rest : List Lexeme} →
      IsObject ws o rest → is_among (map (λ x. x.name) before) o.name ≡ false →
      IsNextObject before ws (before ++ o ∷ []) rest

-- file = { object }  at most 16 of them, up to the end mark
pub data IsFile : List Lexeme → List ObjectForm → Type 0 where
  file : {ws : List Lexeme} {objects : List ObjectForm} →
      IsSeries IsNextObject (begins symbols.Object) 16 [] ws objects (end_mark ∷ []) → IsFile ws objects
