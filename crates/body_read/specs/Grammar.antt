-- What an expression is, by the productions of its grammar.
use Rattle.std.specs.Prelude.{◌≡◌, ℕ, ◌-◌, ◌<◌, List, [], ◌∷◌, ◌++◌, Bool, true, false, Option, Some, None}
use Rattle.path_tree.specs.declared.token.Symbol.{Symbol}
use Rattle.path_tree.specs.declared.token.Symbol.TheVariants.{Plus, Minus, OpenParen, CloseParen, OpenBracket}
use Rattle.path_tree.specs.declared.token.Symbol.TheVariants.{CloseBracket, Comma, First, Lookup, Count}
use Rattle.path_tree.specs.Lexeme.{Lexeme, symbol, number as number_lexeme, identifier, string}
use Rattle.path_tree.specs.Reading.{symbol_at}
use Rattle.path_tree.specs.Known.{value_of}
use Rattle.value_core.specs.declared.kind.Elem.{Elem}
use Rattle.value_core.specs.declared.kind.Kind.{Kind}
use Rattle.value_core.specs.Plain.{IsText}
use Rattle.decl_core.specs.Form.{element, oldest, under, Integers, number, count, Texts, literal, Form, an_integer}
use Rattle.decl_core.specs.Form.{a_text}
use Rattle.token_read.specs.Names.{Names, found_in, sign_at}
use Rattle.body_read.specs.Reading.{of_sort, value_named, combined}
use Rattle.decl_core.specs.Sorts.{array_sort, queue_sort, table_sort}

mutual
  -- expr = term { ("+" | "-") term }
  pub data ExprText : Type 0 where
    terms : TermText → MoreText → ExprText

  pub data MoreText : Type 0 where
    no_more : MoreText
    and_more : Bool → TermText → MoreText → MoreText

  -- term = number | string | name | name "[" expr "]" | "first" "(" name ")" | "lookup" "(" name "," expr ")" | "count"
  -- "(" name ")" | "(" expr ")"
  pub data TermText : Type 0 where
    a_number : ℕ → TermText
    a_string : List ℕ → TermText
    a_name : List ℕ → TermText
    an_element : List ℕ → ExprText → TermText
    a_first : List ℕ → TermText
    a_lookup : List ℕ → ExprText → TermText
    a_count : List ℕ → TermText
    in_parens : ExprText → TermText

abbrev pub sign_symbol : Bool → Symbol
sign_symbol true = Plus
sign_symbol false = Minus

-- the lexemes of a text
abbrev mutual
  pub expr_lexemes : ExprText → List Lexeme
  expr_lexemes (terms t m) = term_lexemes t ++ more_lexemes m

  pub more_lexemes : MoreText → List Lexeme
  more_lexemes no_more = []
  more_lexemes (and_more plus t m) = symbol (sign_symbol plus) ∷ (term_lexemes t ++ more_lexemes m)

  pub term_lexemes : TermText → List Lexeme
  term_lexemes (a_number n) = number_lexeme n ∷ []
  term_lexemes (a_string bytes) = string bytes ∷ []
  term_lexemes (a_name bytes) = identifier bytes ∷ []
  term_lexemes (an_element bytes e) =
      identifier bytes ∷ symbol OpenBracket ∷ (expr_lexemes e ++ symbol CloseBracket ∷ [])
  term_lexemes (a_first bytes) = symbol First ∷ symbol OpenParen ∷ identifier bytes ∷ symbol CloseParen ∷ []
  term_lexemes (a_lookup bytes e) =
      symbol Lookup ∷ symbol OpenParen ∷ identifier bytes ∷ symbol Comma ∷ (expr_lexemes e ++ symbol CloseParen ∷ [])
  term_lexemes (a_count bytes) = symbol Count ∷ symbol OpenParen ∷ identifier bytes ∷ symbol CloseParen ∷ []
  term_lexemes (in_parens e) = symbol OpenParen ∷ (expr_lexemes e ++ symbol CloseParen ∷ [])

-- The part of this name holds what is asked, and its elements are of this sort.
pub record IsPart (names : Names) (bytes : List ℕ) (sort_of : Kind → Option Elem) (place : ℕ)
    (sort : Elem) : Type 0 where
  pub kind : Kind
  pub found : found_in names.parts bytes ≡ Some (place, kind)
  pub fits : sort_of kind ≡ Some sort

-- A text is this expression, with so many levels left: each name is known and of its kind, sums are of integers.
abbrev mutual
  pub IsExpr : Names → ℕ → ExprText → Form → Type 0
  IsExpr names depth (terms t no_more) x = IsTerm names depth t x
  IsExpr names depth (terms t (and_more plus u m)) x =
      (f : Integers) × (y : Integers) × IsTerm names depth t (an_integer f) × AddsUp names depth (and_more plus u m) f y
      × (x ≡ an_integer y)

  -- from what stands before, to the whole
  pub AddsUp : Names → ℕ → MoreText → Integers → Integers → Type 0
  AddsUp names depth no_more sum y = y ≡ sum
  AddsUp names depth (and_more plus t m) sum y =
      (g : Integers) × IsTerm names depth t (an_integer g) × AddsUp names depth m (combined plus sum g) y

  pub IsTerm : Names → ℕ → TermText → Form → Type 0
  IsTerm names depth (a_number n) x = x ≡ an_integer (number n)
  IsTerm names depth (a_string bytes) x = IsText bytes × (x ≡ a_text (literal bytes))
  IsTerm names depth (a_name bytes) x = value_named names bytes (value_of names.constants bytes) ≡ Some x
  IsTerm names depth (an_element bytes e) x =
      (p : ℕ) × (s : Elem) × (i : Integers) × IsPart names bytes array_sort p s × (0 < depth)
      × IsExpr names (depth - 1) e (an_integer i) × (x ≡ of_sort s (element p i))
  IsTerm names depth (a_first bytes) x =
      (p : ℕ) × (s : Elem) × IsPart names bytes queue_sort p s × (0 < depth) × (x ≡ of_sort s (oldest p))
  IsTerm names depth (a_lookup bytes e) x =
      (p : ℕ) × (s : Elem) × (k : Texts) × IsPart names bytes table_sort p s × (0 < depth)
      × IsExpr names (depth - 1) e (a_text k) × (x ≡ of_sort s (under p k))
  IsTerm names depth (a_count bytes) x =
      (p : ℕ) × (kind : Kind) × (found_in names.parts bytes ≡ Some (p, kind)) × (0 < depth) × (x ≡ an_integer (count p))
  IsTerm names depth (in_parens e) x = (0 < depth) × IsExpr names (depth - 1) e x

-- no symbol that would go on with an expression
pub record EndsExpr (rest : List Lexeme) : Type 0 where
  pub no_sign : sign_at rest ≡ None
  pub no_index : symbol_at OpenBracket rest ≡ None

-- an expression stands before the rest
pub record IsExprBefore (names : Names) (depth : ℕ) (ws : List Lexeme) (x : Form) (rest : List Lexeme) : Type 0 where
  pub text : ExprText
  pub stands : ws ≡ expr_lexemes text ++ rest
  pub is : IsExpr names depth text x
