-- Reading entries, objects and files from left to right, step by step.
use Rattle.std.specs.Prelude.{ℕ, Bool, true, false, List, [], ◌∷◌, ◌++◌, length, map, Option, Some}
use Rattle.std.specs.Prelude.{None, nat_lt, ◌||◌, not}
use Rattle.path_tree.specs.declared.token.Symbol.TheVariants as symbols
use Rattle.path_tree.specs.Path.{Path}
use Rattle.path_tree.specs.Lexeme.{Lexeme, symbol, number as number_lexeme, identifier, string, end_mark}
use Rattle.path_tree.specs.Reading.{symbol_at}
use Rattle.value_core.specs.declared.kind.Kind.{Kind}
use Rattle.decl_read.specs.declared.collect.Opening.TheVariants as openings
use Rattle.token_read.specs.Reader.{◌>>=◌, Reader}
use Rattle.token_read.specs.Names.{is_among, is_known, name_at}
use Rattle.body_read.specs.StatementReading.{body_in}
use Rattle.token_read.specs.Series.{series_at}
use Rattle.decl_core.specs.ObjectForm.{OperationForm, ObjectForm}
use Rattle.decl_parts.specs.Declarations.{begins, with_params}
use Rattle.decl_read.specs.Declarations.{is_parameter}
use Rattle.decl_read.specs.Declarations.{names_before, names_within, names_in_function, entry_names}
use Rattle.decl_core.specs.ObjectForm.{operation_with}
use Rattle.decl_parts.specs.DeclarationReading.{provided, consts_in, elem_at, var_in, params_in, path_item_in}

-- a new operation's name behind `procedure` or `function`
unfoldable pub new_operation_in : List (List ℕ × ℕ) → List (List ℕ × Kind) → List OperationForm → Reader (List ℕ)
new_operation_in constants parts before ws = do
  q ← name_at ws
  new ← provided (not (is_known (names_before constants parts before) q.0 || is_parameter before q.0)) q.0
  room ← provided (nat_lt (length before) 32) new
  Some (q.0, q.1)

-- behind `procedure`
unfoldable pub procedure_in : ℕ → List (List ℕ × ℕ) → List (List ℕ × Kind) → List OperationForm →
    Reader (List OperationForm)
procedure_in most constants parts before ws = do
  q ← new_operation_in constants parts before ws
  p ← params_in (names_within constants parts before q.0) q.1
  behind ← symbol_at symbols.Semicolon p.1
  opened ← symbol_at symbols.Begin behind
  b ← body_in (with_params (names_within constants parts before q.0) p.0) most opened
  rest ← symbol_at symbols.Semicolon b.1
  Some (before ++ operation_with parts q.0 p.0 None b.0 ∷ [], rest)

-- behind `function`
unfoldable pub function_in : ℕ → List (List ℕ × ℕ) → List (List ℕ × Kind) → List OperationForm →
    Reader (List OperationForm)
function_in most constants parts before ws = do
  q ← new_operation_in constants parts before ws
  p ← params_in (names_within constants parts before q.0) q.1
  colon ← symbol_at symbols.Colon p.1
  e ← elem_at colon
  behind ← symbol_at symbols.Semicolon e.1
  opened ← symbol_at symbols.Begin behind
  b ← body_in (names_in_function (with_params (names_within constants parts before q.0) p.0) q.0 e.0) most opened
  rest ← symbol_at symbols.Semicolon b.1
  Some (before ++ operation_with parts q.0 p.0 (Some e.0) b.0 ∷ [], rest)

-- behind `entry`: where no `procedure` stands, a function
unfoldable pub entry_by : ℕ → List (List ℕ × ℕ) → List (List ℕ × Kind) → List OperationForm → List Lexeme →
    Option (List Lexeme) → Option (List OperationForm × List Lexeme)
entry_by most constants parts before ws (Some behind) = procedure_in most constants parts before behind
entry_by most constants parts before ws None =
    symbol_at symbols.Function ws >>= λ behind. function_in most constants parts before behind

unfoldable pub entry_in : ℕ → List (List ℕ × ℕ) → List (List ℕ × Kind) → List OperationForm →
    Reader (List OperationForm)
entry_in most constants parts before ws = do
  opened ← symbol_at symbols.Entry ws
  entry_by most constants parts before opened (symbol_at symbols.Procedure opened)

-- an object behind its name and the semicolon
unfoldable pub contents_in : ℕ → List ℕ → Reader ObjectForm
contents_in most bytes ws = do
  c ← series_at consts_in (begins symbols.Const) 16 [] ws
  q ← series_at (path_item_in c.0 (entry_names openings.Nothing ws)) (begins symbols.Path) 16 [] c.1
  p ← series_at (var_in c.0) (begins symbols.Var) 16 [] q.1
  o ← series_at (entry_in most c.0 p.0) (begins symbols.Entry) 32 [] p.1
  end ← symbol_at symbols.End o.1
  rest ← symbol_at symbols.Semicolon end
  Some (record { name = bytes; parts = p.0; paths = q.0; operations = o.0 }, rest)

-- an object of another name than those before
unfoldable pub next_object_in : ℕ → List ObjectForm → Reader (List ObjectForm)
next_object_in most before ws = do
  opened ← symbol_at symbols.Object ws
  q ← name_at opened
  new ← provided (not (is_among (map (λ x. x.name) before) q.0)) q.0
  behind ← symbol_at symbols.Semicolon q.1
  o ← contents_in most q.0 behind
  Some (before ++ o.0 ∷ [], o.1)

-- the end mark, and nothing behind it
abbrev pub end_at : List Lexeme → Bool
end_at [] = false
end_at (end_mark ∷ []) = true
end_at (end_mark ∷ w ∷ ws) = false
end_at (symbol s ∷ ws) = false
end_at (number_lexeme n ∷ ws) = false
end_at (identifier bytes ∷ ws) = false
end_at (string bytes ∷ ws) = false

-- the objects of a file
unfoldable pub file_in : ℕ → List Lexeme → Option (List ObjectForm)
file_in most ws = do
  x ← series_at (next_object_in most) (begins symbols.Object) 16 [] ws
  provided (end_at x.1) x.0
