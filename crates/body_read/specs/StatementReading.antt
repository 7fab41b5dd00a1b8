-- Reading conditions and statements from left to right, step by step.
use Rattle.std.specs.Prelude.{ℕ, zero, suc, List, [], ◌∷◌, length, Bool, true, Option, Some, None, nat_le, ◌&&◌}
use Rattle.std.specs.Prelude.{bytes_eq, if◌then◌else◌}
use Rattle.path_tree.specs.declared.token.Symbol.{Symbol}
use Rattle.path_tree.specs.declared.token.Symbol.TheVariants as symbols
use Rattle.path_tree.specs.Lexeme.{Lexeme, symbol, number as number_lexeme, identifier, string, end_mark, same_symbol}
use Rattle.path_tree.specs.Reading.{symbol_at}
use Rattle.value_core.specs.declared.kind.Elem.{Elem}
use Rattle.value_core.specs.declared.kind.Elem.TheVariants as elem
use Rattle.decl_core.specs.declared.stmt.Relation.{Relation}
use Rattle.decl_core.specs.declared.stmt.Relation.TheVariants as relations
use Rattle.decl_core.specs.Form.{Form, an_integer, a_text, Condition, compare, same_texts, other_texts, has, is_not}
use Rattle.decl_core.specs.Form.{Statement, block, set_element, set_result, append, take, store, erase, choose, refuse}
use Rattle.decl_core.specs.Form.{Statements, nothing, first_and}
use Rattle.token_read.specs.Reader.{◌>>=◌, Reader}
use Rattle.token_read.specs.Names.{Names, found_in}
use Rattle.body_read.specs.Reading.{integer_form, text_form, level_of, part_in, expr_in, term_in}
use Rattle.body_read.specs.Reading.{nested_at}
use Rattle.decl_core.specs.Sorts.{array_sort, queue_sort, table_sort}

-- an expression with so many levels left
abbrev pub expr_at : Names → ℕ → ℕ → Reader Form
expr_at names most depth = expr_in (term_in names (nested_at names most depth) depth) most

-- a symbol that compares
abbrev pub relation_of : Symbol → Option Relation
relation_of s =
    if same_symbol s symbols.Equal then Some relations.Equal
    else if same_symbol s symbols.Differ then Some relations.Differ
    else if same_symbol s symbols.Less then Some relations.Less
    else if same_symbol s symbols.LessEqual then Some relations.LessEqual
    else if same_symbol s symbols.Greater then Some relations.Greater
    else if same_symbol s symbols.GreaterEqual then Some relations.GreaterEqual else None

abbrev pub relation_at : Reader Relation
relation_at [] = None
relation_at (symbol s ∷ ws) = relation_of s >>= λ r. Some (r, ws)
relation_at (number_lexeme n ∷ ws) = None
relation_at (identifier bytes ∷ ws) = None
relation_at (string bytes ∷ ws) = None
relation_at (end_mark ∷ ws) = None

-- what may stand left of a relation
abbrev pub left_of : Relation → Form → Option Form
left_of r (an_integer a) = Some (an_integer a)
left_of relations.Equal (a_text a) = Some (a_text a)
left_of relations.Differ (a_text a) = Some (a_text a)
left_of relations.Less (a_text a) = None
left_of relations.LessEqual (a_text a) = None
left_of relations.Greater (a_text a) = None
left_of relations.GreaterEqual (a_text a) = None

-- two expressions with a relation between them
abbrev pub compared : Relation → Form → Form → Option Condition
compared r (an_integer a) (an_integer b) = Some (compare r a b)
compared r (an_integer a) (a_text b) = None
compared r (a_text a) (an_integer b) = None
compared relations.Equal (a_text a) (a_text b) = Some (same_texts a b)
compared relations.Differ (a_text a) (a_text b) = Some (other_texts a b)
compared relations.Less (a_text a) (a_text b) = None
compared relations.LessEqual (a_text a) (a_text b) = None
compared relations.Greater (a_text a) (a_text b) = None
compared relations.GreaterEqual (a_text a) (a_text b) = None

unfoldable pub comparison_in : Reader Form → Reader Condition
comparison_in expr ws = do
  a ← expr ws
  r ← relation_at a.1
  x ← left_of r.0 a.0
  b ← expr r.1
  c ← compared r.0 x b.0
  Some (c, b.1)

-- behind `has`
unfoldable pub has_in : Names → Reader Form → ℕ → Reader Condition
has_in names nested depth ws = do
  p ← part_in names depth ws
  e ← table_sort p.1
  behind ← symbol_at symbols.Comma p.2
  x ← nested behind
  k ← text_form x.0
  rest ← symbol_at symbols.CloseParen x.1
  Some (has p.0 k, rest)

unfoldable pub not_in : Reader Condition → Reader Condition
not_in deeper ws = do
  x ← deeper ws
  Some (is_not x.0, x.1)

-- where no `not` stands: what stands behind `has`, or else a comparison
unfoldable pub plain_condition_in : Names → ℕ → ℕ → List Lexeme → Option (List Lexeme) →
    Option (Condition × List Lexeme)
plain_condition_in names most depth ws (Some behind) = has_in names (nested_at names most depth) depth behind
plain_condition_in names most depth ws None = comparison_in (expr_at names most depth) ws

-- what stands behind `not`, or else a condition without one
unfoldable pub condition_in : Names → ℕ → Reader Condition → ℕ → List Lexeme → Option (List Lexeme) →
    Option (Condition × List Lexeme)
condition_in names most deeper depth ws (Some behind) = not_in deeper behind
condition_in names most deeper depth ws None = plain_condition_in names most depth ws (symbol_at symbols.Has ws)

-- a condition behind `not`, which opens a level: with so many left before it
unfoldable pub deeper_condition : Names → ℕ → ℕ → Reader Condition
deeper_condition names most zero ws = None
deeper_condition names most (suc depth) ws =
    condition_in names most (deeper_condition names most depth) depth ws (symbol_at symbols.Not ws)

-- a condition, with so many levels left
abbrev pub condition_at : Names → ℕ → ℕ → Reader Condition
condition_at names most depth ws =
    condition_in names most (deeper_condition names most depth) depth ws (symbol_at symbols.Not ws)

-- an expression of a sort
abbrev pub sorted : Elem → Form → Option Form
sorted elem.Integer (an_integer a) = Some (an_integer a)
sorted elem.Integer (a_text a) = None
sorted elem.Text (an_integer a) = None
sorted elem.Text (a_text a) = Some (a_text a)

-- the sort of the function of this name, where it is that of the body
abbrev pub result_sort : Option (List ℕ × Elem) → List ℕ → Option Elem
result_sort None bytes = None
result_sort (Some f) bytes = if bytes_eq f.0 bytes then Some f.1 else None

-- behind the name of an array and `[`
unfoldable pub element_in : Names → ℕ → List ℕ → Reader Statement
element_in names most bytes ws = do
  p ← found_in names.parts bytes
  e ← array_sort p.1
  a ← nested_at names most 32 ws
  i ← integer_form a.0
  closed ← symbol_at symbols.CloseBracket a.1
  behind ← symbol_at symbols.Assign closed
  b ← expr_at names most 32 behind
  x ← sorted e b.0
  Some (set_element p.0 i x, b.1)

-- behind the name of a function
unfoldable pub result_in : Names → ℕ → List ℕ → Reader Statement
result_in names most bytes ws = do
  behind ← symbol_at symbols.Assign ws
  e ← result_sort names.function bytes
  b ← expr_at names most 32 behind
  x ← sorted e b.0
  Some (set_result x, b.1)

-- behind a name
unfoldable pub assigned_in : Names → ℕ → List ℕ → List Lexeme → Option (List Lexeme) → Option (Statement × List Lexeme)
assigned_in names most bytes ws (Some behind) = element_in names most bytes behind
assigned_in names most bytes ws None = result_in names most bytes ws

-- behind `append`
unfoldable pub append_in : Names → ℕ → Reader Statement
append_in names most ws = do
  p ← part_in names 32 ws
  e ← queue_sort p.1
  behind ← symbol_at symbols.Comma p.2
  b ← nested_at names most 32 behind
  x ← sorted e b.0
  rest ← symbol_at symbols.CloseParen b.1
  Some (append p.0 x, rest)

-- behind `take`
unfoldable pub take_in : Names → Reader Statement
take_in names ws = do
  p ← part_in names 32 ws
  e ← queue_sort p.1
  rest ← symbol_at symbols.CloseParen p.2
  Some (take p.0, rest)

-- behind `store`
unfoldable pub store_in : Names → ℕ → Reader Statement
store_in names most ws = do
  p ← part_in names 32 ws
  e ← table_sort p.1
  behind ← symbol_at symbols.Comma p.2
  a ← nested_at names most 32 behind
  k ← text_form a.0
  second ← symbol_at symbols.Comma a.1
  b ← nested_at names most 32 second
  x ← sorted e b.0
  rest ← symbol_at symbols.CloseParen b.1
  Some (store p.0 k x, rest)

-- behind `erase`
unfoldable pub erase_in : Names → ℕ → Reader Statement
erase_in names most ws = do
  p ← part_in names 32 ws
  e ← table_sort p.1
  behind ← symbol_at symbols.Comma p.2
  a ← nested_at names most 32 behind
  k ← text_form a.0
  rest ← symbol_at symbols.CloseParen a.1
  Some (erase p.0 k, rest)

-- 1 to 16 lower-case letters
abbrev pub all_lower : List ℕ → Bool
all_lower [] = true
all_lower (b ∷ bytes) = nat_le 97 b && nat_le b 122 && all_lower bytes

abbrev pub word_of_refusal : List ℕ → Option (List ℕ)
word_of_refusal bytes =
    if nat_le 1 (length bytes) && nat_le (length bytes) 16 && all_lower bytes then Some bytes else None

-- a string in front
abbrev pub string_at : Reader (List ℕ)
string_at [] = None
string_at (string bytes ∷ ws) = Some (bytes, ws)
string_at (symbol s ∷ ws) = None
string_at (number_lexeme n ∷ ws) = None
string_at (identifier bytes ∷ ws) = None
string_at (end_mark ∷ ws) = None

-- behind `refuse`
unfoldable pub refuse_in : Reader Statement
refuse_in ws = do
  opened ← symbol_at symbols.OpenParen ws
  t ← string_at opened
  w ← word_of_refusal t.0
  rest ← symbol_at symbols.CloseParen t.1
  Some (refuse w, rest)

-- behind the statement of `then`: another behind `else`, or the empty one
unfoldable pub other_in : Reader Statement → List Lexeme → Option (List Lexeme) → Option (Statement × List Lexeme)
other_in inner ws (Some behind) = inner behind
other_in inner ws None = Some (block nothing, ws)

-- behind `if`, which opens a level: with so many left before it
unfoldable pub if_in : Names → ℕ → Reader Statement → ℕ → Reader Statement
if_in names most inner depth ws = do
  left ← level_of depth
  c ← condition_at names most 32 ws
  behind ← symbol_at symbols.Then c.1
  x ← inner behind
  y ← other_in inner x.1 (symbol_at symbols.Else x.1)
  Some (choose c.0 x.0 y.0, y.1)

-- statements so far, and one more
abbrev pub and_then : Statements → Statement → Statements
and_then nothing s = first_and s nothing
and_then (first_and t rest) s = first_and t (and_then rest s)

-- behind a statement: others behind a semicolon, or the end
unfoldable pub statements_by : (Statements → Reader Statements) → Statements → List Lexeme → Option (List Lexeme) →
    Option (Statements × List Lexeme)
statements_by others done ws (Some behind) = others done behind
statements_by others done ws None = symbol_at symbols.End ws >>= λ rest. Some (done, rest)

-- statements up to `end`, at most so many, behind those that were read
unfoldable pub statements_at : Reader Statement → ℕ → Statements → Reader Statements
statements_at inner zero done ws = None
statements_at inner (suc most) done ws = do
  x ← inner ws
  statements_by (statements_at inner most) (and_then done x.0) x.1 (symbol_at symbols.Semicolon x.1)

-- behind `begin`, which opens a level: with so many left before it
unfoldable pub block_in : Reader Statement → ℕ → ℕ → Reader Statement
block_in inner most depth ws = do
  left ← level_of depth
  x ← statements_at inner most nothing ws
  Some (block x.0, x.1)

-- what begins with a symbol; where none of these stands, the statement is empty, and all that was
-- there stands behind it
unfoldable pub statement_by_symbol : Names → ℕ → Reader Statement → ℕ → List Lexeme → Symbol → Reader Statement
statement_by_symbol names most inner depth all s ws =
    if same_symbol s symbols.Begin then block_in inner most depth ws
    else if same_symbol s symbols.If then if_in names most inner depth ws
    else if same_symbol s symbols.Append then append_in names most ws
    else if same_symbol s symbols.Take then take_in names ws
    else if same_symbol s symbols.Store then store_in names most ws
    else if same_symbol s symbols.Erase then erase_in names most ws
    else if same_symbol s symbols.Refuse then refuse_in ws else Some (block nothing, all)

-- a statement, where `inner` reads those inside `begin` and `if`, with so many levels left
unfoldable pub statement_in : Names → ℕ → Reader Statement → ℕ → Reader Statement
statement_in names most inner depth [] = Some (block nothing, [])
statement_in names most inner depth (identifier bytes ∷ ws) =
    assigned_in names most bytes ws (symbol_at symbols.OpenBracket ws)
statement_in names most inner depth (symbol s ∷ ws) = statement_by_symbol names most inner depth (symbol s ∷ ws) s ws
statement_in names most inner depth (number_lexeme n ∷ ws) = Some (block nothing, number_lexeme n ∷ ws)
statement_in names most inner depth (string bytes ∷ ws) = Some (block nothing, string bytes ∷ ws)
statement_in names most inner depth (end_mark ∷ ws) = Some (block nothing, end_mark ∷ ws)

-- a statement inside `begin` or `if`, with so many levels left before that
unfoldable pub inner_at : Names → ℕ → ℕ → Reader Statement
inner_at names most zero ws = None
inner_at names most (suc depth) ws = statement_in names most (inner_at names most depth) depth ws

-- the statements of a body, behind its `begin`, which opens the first of 32 levels
unfoldable pub body_in : Names → ℕ → Reader Statements
body_in names most ws = statements_at (inner_at names most 32) most nothing ws
