-- Reading the declarations of constants, of parts, of parameters and of paths from left to right, step by step.
use Rattle.std.specs.Prelude.{ℕ, zero, suc, ◌+◌, ◌-◌, Bool, true, false, List, [], ◌∷◌, ◌++◌, length, Option, Some}
use Rattle.std.specs.Prelude.{None, nat_lt, nat_le, is_some, ◌&&◌, ◌||◌, not, if◌then◌else◌}
use Rattle.path_tree.specs.declared.token.Symbol.{Symbol}
use Rattle.path_tree.specs.declared.token.Symbol.TheVariants as symbols
use Rattle.path_tree.specs.Path.{Path}
use Rattle.path_tree.specs.Lexeme.{Lexeme, symbol, number as number_lexeme, identifier, string, end_mark, same_symbol}
use Rattle.path_tree.specs.Reading.{symbol_at, path_at as read_path}
use Rattle.path_tree.specs.Known.{value_of}
use Rattle.value_core.specs.declared.kind.Elem.{Elem}
use Rattle.value_core.specs.declared.kind.Elem.TheVariants as elem
use Rattle.value_core.specs.declared.kind.Kind.{Kind}
use Rattle.value_core.specs.declared.kind.Kind.TheVariants as kind
use Rattle.token_read.specs.Reader.{◌>>=◌, Reader}
use Rattle.token_read.specs.Names.{Names, is_among, is_known, name_at}
use Rattle.token_read.specs.Series.{series_at}
use Rattle.decl_parts.specs.Declarations.{begins, begins_name, each_with, names_of_parts, with_params}

-- what was tested
abbrev pub provided : {A : Type 0} → Bool → A → Option A
provided true a = Some a
provided false a = None

-- a number in front
abbrev pub number_at : Reader ℕ
number_at [] = None
number_at (number_lexeme n ∷ ws) = Some (n, ws)
number_at (symbol s ∷ ws) = None
number_at (identifier bytes ∷ ws) = None
number_at (string bytes ∷ ws) = None
number_at (end_mark ∷ ws) = None

-- a constant behind those before
unfoldable pub constant_in : List (List ℕ × ℕ) → Reader (List (List ℕ × ℕ))
constant_in before ws = do
  q ← name_at ws
  new ← provided (not (is_some (value_of before q.0))) q.0
  room ← provided (nat_lt (length before) 16) new
  behind ← symbol_at symbols.Equal q.1
  n ← number_at behind
  rest ← symbol_at symbols.Semicolon n.1
  Some (before ++ (q.0, n.0) ∷ [], rest)

-- constants behind `const`
unfoldable pub consts_in : List (List ℕ × ℕ) → Reader (List (List ℕ × ℕ))
consts_in before ws = do
  opened ← symbol_at symbols.Const ws
  x ← constant_in before opened
  series_at constant_in begins_name 16 x.0 x.1

-- a size: a number, or the value of a constant
abbrev pub size_at : List (List ℕ × ℕ) → Reader ℕ
size_at constants [] = None
size_at constants (number_lexeme n ∷ ws) = Some (n, ws)
size_at constants (identifier bytes ∷ ws) = value_of constants bytes >>= λ n. Some (n, ws)
size_at constants (symbol s ∷ ws) = None
size_at constants (string bytes ∷ ws) = None
size_at constants (end_mark ∷ ws) = None

abbrev pub elem_of : Symbol → Option Elem
elem_of s =
    if same_symbol s symbols.Integer then Some elem.Integer else if same_symbol s symbols.Text then Some elem.Text
    else None

abbrev pub elem_at : Reader Elem
elem_at [] = None
elem_at (symbol s ∷ ws) = elem_of s >>= λ e. Some (e, ws)
elem_at (number_lexeme n ∷ ws) = None
elem_at (identifier bytes ∷ ws) = None
elem_at (string bytes ∷ ws) = None
elem_at (end_mark ∷ ws) = None

-- `of` and what the elements are
unfoldable pub of_elem_in : Reader Elem
of_elem_in ws = do
  behind ← symbol_at symbols.Of ws
  elem_at behind

-- a size from 1 to 1024
abbrev pub allowed : ℕ → Option ℕ
allowed n = provided (nat_le 1 n && nat_le n 1024) n

unfoldable pub size_in : List (List ℕ × ℕ) → Reader ℕ
size_in constants ws = do
  n ← size_at constants ws
  size ← allowed n.0
  Some (size, n.1)

-- behind `array`
unfoldable pub array_in : List (List ℕ × ℕ) → Reader Kind
array_in constants ws = do
  opened ← symbol_at symbols.OpenBracket ws
  size ← size_in constants opened
  closed ← symbol_at symbols.CloseBracket size.1
  e ← of_elem_in closed
  Some (kind.Array size.0 e.0, e.1)

unfoldable pub queue_in : Reader Kind
queue_in ws = do
  e ← of_elem_in ws
  Some (kind.Queue e.0, e.1)

unfoldable pub table_in : Reader Kind
table_in ws = do
  e ← of_elem_in ws
  Some (kind.Table e.0, e.1)

unfoldable pub kind_by_symbol : List (List ℕ × ℕ) → Symbol → Reader Kind
kind_by_symbol constants s ws =
    if same_symbol s symbols.Array then array_in constants ws else if same_symbol s symbols.Queue then queue_in ws
    else if same_symbol s symbols.Table then table_in ws else None

unfoldable pub kind_in : List (List ℕ × ℕ) → Reader Kind
kind_in constants [] = None
kind_in constants (symbol s ∷ ws) = kind_by_symbol constants s ws
kind_in constants (number_lexeme n ∷ ws) = None
kind_in constants (identifier bytes ∷ ws) = None
kind_in constants (string bytes ∷ ws) = None
kind_in constants (end_mark ∷ ws) = None

-- behind a name: others behind a comma, or the colon
unfoldable pub names_by : (List (List ℕ) → Reader (List (List ℕ))) → List (List ℕ) → List Lexeme →
    Option (List Lexeme) → Option (List (List ℕ) × List Lexeme)
names_by others before ws (Some behind) = others before behind
names_by others before ws None = symbol_at symbols.Colon ws >>= λ rest. Some (before, rest)

-- a new name, and others behind a comma
unfoldable pub names_with : Names → (List (List ℕ) → Reader (List (List ℕ))) → List (List ℕ) → Reader (List (List ℕ))
names_with names others before ws = do
  q ← name_at ws
  new ← provided (not (is_known names q.0 || is_among before q.0)) q.0
  names_by others (before ++ q.0 ∷ []) q.1 (symbol_at symbols.Comma q.1)

-- names up to a colon, each a new one: all with those before
unfoldable pub names_at : Names → ℕ → List (List ℕ) → Reader (List (List ℕ))
names_at names zero before ws = None
names_at names (suc left) before ws = names_with names (names_at names left) before ws

-- parts of one kind, behind those before
unfoldable pub part_group_in : List (List ℕ × ℕ) → List (List ℕ × Kind) → Reader (List (List ℕ × Kind))
part_group_in constants before ws = do
  x ← names_at (names_of_parts constants before) (16 - length before) [] ws
  k ← kind_in constants x.1
  rest ← symbol_at symbols.Semicolon k.1
  Some (before ++ each_with k.0 x.0, rest)

-- parts behind `var`
unfoldable pub var_in : List (List ℕ × ℕ) → List (List ℕ × Kind) → Reader (List (List ℕ × Kind))
var_in constants before ws = do
  opened ← symbol_at symbols.Var ws
  x ← part_group_in constants before opened
  series_at (part_group_in constants) begins_name 16 x.0 x.1

-- parameters of one sort, behind those before
unfoldable pub group_of_params : Names → List (List ℕ × Elem) → Reader (List (List ℕ × Elem))
group_of_params names before ws = do
  x ← names_at (with_params names before) (8 - length before) [] ws
  e ← elem_at x.1
  Some (before ++ each_with e.0 x.0, e.1)

unfoldable pub next_group_in : Names → List (List ℕ × Elem) → Reader (List (List ℕ × Elem))
next_group_in names before ws = do
  opened ← symbol_at symbols.Semicolon ws
  group_of_params names before opened

-- parameters, where a parenthesis opens
unfoldable pub params_by : Names → List Lexeme → Option (List Lexeme) → Option (List (List ℕ × Elem) × List Lexeme)
params_by names ws None = Some ([], ws)
params_by names ws (Some opened) = do
  x ← group_of_params names [] opened
  y ← series_at (next_group_in names) (begins symbols.Semicolon) 8 x.0 x.1
  rest ← symbol_at symbols.CloseParen y.1
  Some (y.0, rest)

unfoldable pub params_in : Names → Reader (List (List ℕ × Elem))
params_in names ws = params_by names ws (symbol_at symbols.OpenParen ws)

-- a path behind those before
unfoldable pub path_item_in : List (List ℕ × ℕ) → List (List ℕ) → List Path → Reader (List Path)
path_item_in constants operations before ws = do
  room ← provided (nat_lt (length before) 16) before
  x ← read_path (record { operations = operations; constants = constants }) (length ws + 1) ws
  rest ← symbol_at symbols.Semicolon x.1
  Some (before ++ x.0 ∷ [], rest)
