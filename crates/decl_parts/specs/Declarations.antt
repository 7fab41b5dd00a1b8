-- What the declarations of constants, of paths, of parts and of parameters are, by the productions of their grammar.
use Rattle.std.specs.Prelude.{◌≡◌, ℕ, suc, ◌<◌, ◌≤◌, ◌-◌, Bool, true, false, List, [], ◌∷◌, ◌++◌, length, map, drop}
use Rattle.std.specs.Prelude.{is_some, Some, None}
use Rattle.path_tree.specs.declared.token.Symbol.{Symbol}
use Rattle.path_tree.specs.declared.token.Symbol.TheVariants as symbols
use Rattle.path_tree.specs.Path.{Path}
use Rattle.path_tree.specs.Lexeme.{Lexeme, symbol, number, identifier, string, end_mark}
use Rattle.path_tree.specs.Reading.{symbol_at}
use Rattle.path_tree.specs.Known.{value_of}
use Rattle.path_tree.specs.Grammar.{IsPathAt}
use Rattle.value_core.specs.declared.kind.Elem.{Elem}
use Rattle.value_core.specs.declared.kind.Elem.TheVariants as elem
use Rattle.value_core.specs.declared.kind.Kind.{Kind}
use Rattle.value_core.specs.declared.kind.Kind.TheVariants as kind
use Rattle.token_read.specs.Names.{Names, is_among, is_known}
use Rattle.token_read.specs.Series.{IsSeries}

-- whether a symbol stands in front, and whether a name does
abbrev pub begins : Symbol → List Lexeme → Bool
begins s ws = is_some (symbol_at s ws)

abbrev pub begins_name : List Lexeme → Bool
begins_name [] = false
begins_name (identifier bytes ∷ ws) = true
begins_name (symbol s ∷ ws) = false
begins_name (number n ∷ ws) = false
begins_name (string bytes ∷ ws) = false
begins_name (end_mark ∷ ws) = false

-- name "=" number ";"  behind the constants before: a new name, one of at most 16
pub data IsConstant : List (List ℕ × ℕ) → List Lexeme → List (List ℕ × ℕ) → List Lexeme → Type 0 where
  constant : {before : List (List ℕ × ℕ)} {bytes : List ℕ} {n : ℕ} {rest : List Lexeme} →
      value_of before bytes ≡ None → length before < 16 →
      IsConstant before (identifier bytes ∷ symbol symbols.Equal ∷ number n ∷ symbol symbols.Semicolon ∷ rest)
      (before ++ (bytes, n) ∷ []) rest

-- consts = "const" name "=" number ";" { name "=" number ";" }
pub data IsConsts : List (List ℕ × ℕ) → List Lexeme → List (List ℕ × ℕ) → List Lexeme → Type 0 where
  consts : {before one after : List (List ℕ × ℕ)} {ws vs rest : List Lexeme} →
      IsConstant before ws one vs → IsSeries IsConstant begins_name 16 one vs after rest →
      IsConsts before (symbol symbols.Const ∷ ws) after rest

-- path ";"  one of at most 16; these are the names that it may use
pub data IsPathItem (constants : List (List ℕ × ℕ)) (operations : List (List ℕ)) : List Path → List Lexeme → List Path →
    List Lexeme → Type 0 where
  a_path : {before : List Path} {ws rest : List Lexeme} {tree : Path} {to : ℕ} →
      length before < 16 → IsPathAt (record { operations = operations; constants = constants }) ws 0 tree to →
      drop to ws ≡ symbol symbols.Semicolon ∷ rest →
      IsPathItem constants operations before ws (before ++ tree ∷ []) rest

-- size = number | name of a constant
pub data IsSize (constants : List (List ℕ × ℕ)) : Lexeme → ℕ → Type 0 where
  by_number : {n : ℕ} → IsSize constants (number n) n
  by_constant : {bytes : List ℕ} {n : ℕ} → value_of constants bytes ≡ Some n → IsSize constants (identifier bytes) n

-- elem = "integer" | "text"
pub data IsElem : Symbol → Elem → Type 0 where
  integer : IsElem symbols.Integer elem.Integer
  text : IsElem symbols.Text elem.Text

-- kind = "array" "[" size "]" "of" elem | "queue" "of" elem | "table" "of" elem
-- a size is 1 to 1024
pub data IsKind (constants : List (List ℕ × ℕ)) : List Lexeme → Kind → List Lexeme → Type 0 where
  an_array : {w : Lexeme} {n : ℕ} {s : Symbol} {e : Elem} {rest : List Lexeme} → IsSize constants w n → 1 ≤ n →
      n ≤ 1024 → IsElem s e →
      IsKind constants (symbol symbols.Array ∷ symbol symbols.OpenBracket ∷ w ∷ symbol symbols.CloseBracket
      ∷ symbol symbols.Of ∷ symbol s ∷ rest) (kind.Array n e) rest
  a_queue : {s : Symbol} {e : Elem} {rest : List Lexeme} → IsElem s e →
      IsKind constants (symbol symbols.Queue ∷ symbol symbols.Of ∷ symbol s ∷ rest) (kind.Queue e) rest
  a_table : {s : Symbol} {e : Elem} {rest : List Lexeme} → IsElem s e →
      IsKind constants (symbol symbols.Table ∷ symbol symbols.Of ∷ symbol s ∷ rest) (kind.Table e) rest

-- name { "," name } ":"  so many more at most, each a new one: all with those before
pub data IsNames (names : Names) : ℕ → List (List ℕ) → List Lexeme → List (List ℕ) → List Lexeme → Type 0 where
  last_name : {left : ℕ} {before : List (List ℕ)} {bytes : List ℕ} {rest : List Lexeme} →
      is_known names bytes ≡ false → is_among before bytes ≡ false →
      IsNames names (suc left) before (identifier bytes ∷ symbol symbols.Colon ∷ rest) (before ++ bytes ∷ []) rest
  name_and : {left : ℕ} {before all : List (List ℕ)} {bytes : List ℕ} {ws rest : List Lexeme} →
      is_known names bytes ≡ false → is_among before bytes ≡ false →
      IsNames names left (before ++ bytes ∷ []) ws all rest →
      IsNames names (suc left) before (identifier bytes ∷ symbol symbols.Comma ∷ ws) all rest

-- each of these names with this
abbrev pub each_with : {A : Type 0} → A → List (List ℕ) → List (List ℕ × A)
each_with a all = map (λ bytes. (bytes, a)) all

-- the names that a part must not have: those of constants and of other parts
abbrev pub names_of_parts : List (List ℕ × ℕ) → List (List ℕ × Kind) → Names
names_of_parts constants parts =
    record { constants = constants; params = []; parts = parts; operations = []; function = None }

-- part = name { "," name } ":" kind  with its ";": at most 16 in all
pub data IsPartGroup (constants : List (List ℕ × ℕ)) : List (List ℕ × Kind) → List Lexeme → List (List ℕ × Kind) →
    List Lexeme → Type 0 where
  part_group : {before : List (List ℕ × Kind)} {new : List (List ℕ)} {k : Kind} {ws vs rest : List Lexeme} →
      IsNames (names_of_parts constants before) (16 - length before) [] ws new vs →
      IsKind constants vs k (symbol symbols.Semicolon ∷ rest) →
      IsPartGroup constants before ws (before ++ each_with k new) rest

-- parts = "var" part ";" { part ";" }
pub data IsVar (constants : List (List ℕ × ℕ)) : List (List ℕ × Kind) → List Lexeme → List (List ℕ × Kind) →
    List Lexeme → Type 0 where
  var : {before one after : List (List ℕ × Kind)} {ws vs rest : List Lexeme} →
      IsPartGroup constants before ws one vs → IsSeries (IsPartGroup constants) begins_name 16 one vs after rest →
      IsVar constants before (symbol symbols.Var ∷ ws) after rest

-- these names with these parameters
abbrev pub with_params : Names → List (List ℕ × Elem) → Names
with_params names params = record names { params = params }

-- group = name { "," name } ":" elem  at most 8 parameters in all
pub data IsGroup (names : Names) : List (List ℕ × Elem) → List Lexeme → List (List ℕ × Elem) → List Lexeme →
    Type 0 where
  group : {before : List (List ℕ × Elem)} {new : List (List ℕ)} {s : Symbol} {e : Elem} {ws rest : List Lexeme} →
      IsNames (with_params names before) (8 - length before) [] ws new (symbol s ∷ rest) → IsElem s e →
      IsGroup names before ws (before ++ each_with e new) rest

-- ";" group
pub data IsNextGroup (names : Names) : List (List ℕ × Elem) → List Lexeme → List (List ℕ × Elem) → List Lexeme →
    Type 0 where
  next_group : {before after : List (List ℕ × Elem)} {ws rest : List Lexeme} → IsGroup names before ws after rest →
      IsNextGroup names before (symbol symbols.Semicolon ∷ ws) after rest

-- [ params ], params = "(" group { ";" group } ")"
pub data IsParams (names : Names) : List Lexeme → List (List ℕ × Elem) → List Lexeme → Type 0 where
  no_params : {ws : List Lexeme} → symbol_at symbols.OpenParen ws ≡ None → IsParams names ws [] ws
  some_params : {one all : List (List ℕ × Elem)} {ws vs rest : List Lexeme} →
      IsGroup names [] ws one vs → IsSeries (IsNextGroup names) (begins symbols.Semicolon) 8 one vs all
      (symbol symbols.CloseParen ∷ rest) →
      IsParams names (symbol symbols.OpenParen ∷ ws) all rest
