-- Reading an expression from left to right, step by step.
use Rattle.std.specs.Prelude.{ℕ, zero, suc, List, [], ◌∷◌, length, Bool, true, false, Option, Some, None, nat_le, ◌&&◌}
use Rattle.std.specs.Prelude.{if◌then◌else◌}
use Rattle.path_tree.specs.declared.token.Symbol.{Symbol}
use Rattle.path_tree.specs.declared.token.Symbol.TheVariants.{OpenParen, CloseParen, OpenBracket}
use Rattle.path_tree.specs.declared.token.Symbol.TheVariants.{CloseBracket, Comma, First, Lookup, Count}
use Rattle.path_tree.specs.Lexeme.{Lexeme, symbol, number as number_lexeme, identifier, string, end_mark, same_symbol}
use Rattle.path_tree.specs.Reading.{symbol_at}
use Rattle.path_tree.specs.Known.{value_of}
use Rattle.value_core.specs.Limits.{most_text_bytes}
use Rattle.value_core.specs.declared.kind.Elem.{Elem}
use Rattle.value_core.specs.declared.kind.Elem.TheVariants as elem
use Rattle.value_core.specs.declared.kind.Kind.{Kind}
use Rattle.decl_core.specs.Form.{From, argument, element, oldest, under, Integers, number, integer_from, count, add}
use Rattle.decl_core.specs.Form.{subtract, Texts, literal, text_from, Form, an_integer, a_text}
use Rattle.decl_core.specs.Sorts.{array_sort, queue_sort, table_sort}
use Rattle.token_read.specs.Reader.{◌>>=◌, Reader}
use Rattle.token_read.specs.Names.{Names, found_in, name_at, sign_at}

-- an expression that is taken from somewhere is of that kind
abbrev pub of_sort : Elem → From → Form
of_sort elem.Integer s = an_integer (integer_from s)
of_sort elem.Text s = a_text (text_from s)

-- an expression where an integer is due, and where a text is due
abbrev pub integer_form : Form → Option Integers
integer_form (an_integer e) = Some e
integer_form (a_text e) = None

abbrev pub text_form : Form → Option Texts
text_form (an_integer e) = None
text_form (a_text e) = Some e

-- bytes that a text can have
abbrev pub all_plain : List ℕ → Bool
all_plain [] = true
all_plain (b ∷ bytes) = nat_le 32 b && nat_le b 126 && all_plain bytes

unfoldable pub literal_of : List ℕ → Option Form
literal_of bytes =
    if nat_le (length bytes) most_text_bytes && all_plain bytes then Some (a_text (literal bytes)) else None

-- one level less
abbrev pub level_of : ℕ → Option ℕ
level_of zero = None
level_of (suc depth) = Some depth

-- a parameter of this name
unfoldable pub param_named : Names → List ℕ → Option Form
param_named names bytes = found_in names.params bytes >>= λ p. Some (of_sort p.1 (argument p.0))

-- a plain name is a constant's or a parameter's
unfoldable pub value_named : Names → List ℕ → Option ℕ → Option Form
value_named names bytes (Some n) = Some (an_integer (number n))
value_named names bytes None = param_named names bytes

-- behind a name: an element where a bracket opens
unfoldable pub named_in : Names → Reader Form → List ℕ → List Lexeme → Option (List Lexeme) →
    Option (Form × List Lexeme)
named_in names nested bytes ws None = value_named names bytes (value_of names.constants bytes) >>= λ f. Some (f, ws)
named_in names nested bytes ws (Some opened) = do
  p ← found_in names.parts bytes
  e ← array_sort p.1
  x ← nested opened
  i ← integer_form x.0
  rest ← symbol_at CloseBracket x.1
  Some (of_sort e (element p.0 i), rest)

-- a part's name behind `(`, which opens a level
unfoldable pub part_in : Names → ℕ → List Lexeme → Option (ℕ × Kind × List Lexeme)
part_in names depth ws = do
  opened ← symbol_at OpenParen ws
  left ← level_of depth
  q ← name_at opened
  p ← found_in names.parts q.0
  Some (p.0, p.1, q.1)

unfoldable pub first_in : Names → ℕ → Reader Form
first_in names depth ws = do
  p ← part_in names depth ws
  e ← queue_sort p.1
  rest ← symbol_at CloseParen p.2
  Some (of_sort e (oldest p.0), rest)

unfoldable pub count_in : Names → ℕ → Reader Form
count_in names depth ws = do
  p ← part_in names depth ws
  rest ← symbol_at CloseParen p.2
  Some (an_integer (count p.0), rest)

unfoldable pub lookup_in : Names → Reader Form → ℕ → Reader Form
lookup_in names nested depth ws = do
  p ← part_in names depth ws
  e ← table_sort p.1
  behind ← symbol_at Comma p.2
  x ← nested behind
  k ← text_form x.0
  rest ← symbol_at CloseParen x.1
  Some (of_sort e (under p.0 k), rest)

unfoldable pub group_in : Reader Form → Reader Form
group_in nested ws = do
  x ← nested ws
  rest ← symbol_at CloseParen x.1
  Some (x.0, rest)

-- behind a symbol
unfoldable pub by_symbol_in : Names → Reader Form → ℕ → Symbol → Reader Form
by_symbol_in names nested depth s ws =
    if same_symbol s OpenParen then group_in nested ws else if same_symbol s First then first_in names depth ws
    else if same_symbol s Count then count_in names depth ws
    else if same_symbol s Lookup then lookup_in names nested depth ws else None

unfoldable pub term_in : Names → Reader Form → ℕ → Reader Form
term_in names nested depth [] = None
term_in names nested depth (number_lexeme n ∷ ws) = Some (an_integer (number n), ws)
term_in names nested depth (string bytes ∷ ws) = literal_of bytes >>= λ f. Some (f, ws)
term_in names nested depth (identifier bytes ∷ ws) = named_in names nested bytes ws (symbol_at OpenBracket ws)
term_in names nested depth (symbol s ∷ ws) = by_symbol_in names nested depth s ws
term_in names nested depth (end_mark ∷ ws) = None

abbrev pub combined : Bool → Integers → Integers → Integers
combined true f g = add f g
combined false f g = subtract f g

-- what stands behind a term
unfoldable pub with_more : (Integers → Reader Integers) → Reader Form → Integers → List Lexeme →
    Option (Bool × List Lexeme) → Option (Integers × List Lexeme)
with_more others term sum ws None = Some (sum, ws)
with_more others term sum ws (Some o) = do
  x ← term o.1
  f ← integer_form x.0
  others (combined o.0 sum f) x.1

unfoldable pub more_at : Reader Form → ℕ → Integers → Reader Integers
more_at term zero sum ws = None
more_at term (suc most) sum ws = with_more (more_at term most) term sum ws (sign_at ws)

-- a term alone, or a sum
unfoldable pub summed : Reader Form → ℕ → Form × List Lexeme → Option (Bool × List Lexeme) → Option (Form × List Lexeme)
summed term most x None = Some x
summed term most x (Some o) = do
  f ← integer_form x.0
  y ← more_at term most f x.1
  Some (an_integer y.0, y.1)

unfoldable pub expr_in : Reader Form → ℕ → Reader Form
expr_in term most ws = do
  x ← term ws
  summed term most x (sign_at x.1)

-- an expression, with so many levels left
unfoldable pub nested_at : Names → ℕ → ℕ → Reader Form
nested_at names most zero ws = None
nested_at names most (suc depth) ws = expr_in (term_in names (nested_at names most depth) depth) most ws
