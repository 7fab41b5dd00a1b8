-- Tokens without their places.
use Rattle.std.specs.Prelude.{ℕ, Bool, ◌==◌, List, map, codes}
use Rattle.path_tree.specs.declared.token.Token.{Token}
use Rattle.path_tree.specs.declared.token.Symbol.{Symbol}
use Rattle.path_tree.specs.declared.token.Symbol.TheVariants as symbols
use Rattle.path_tree.specs.declared.token.TokenKind.{TokenKind}
use Rattle.path_tree.specs.declared.token.TokenKind.TheVariants as kinds

-- the place of a symbol among the symbols
abbrev pub symbol_number : Symbol → ℕ
symbol_number symbols.OpenParen = 0
symbol_number symbols.CloseParen = 1
symbol_number symbols.OpenBracket = 2
symbol_number symbols.CloseBracket = 3
symbol_number symbols.Comma = 4
symbol_number symbols.Semicolon = 5
symbol_number symbols.Colon = 6
symbol_number symbols.Assign = 7
symbol_number symbols.Equal = 8
symbol_number symbols.Differ = 9
symbol_number symbols.Less = 10
symbol_number symbols.LessEqual = 11
symbol_number symbols.Greater = 12
symbol_number symbols.GreaterEqual = 13
symbol_number symbols.Plus = 14
symbol_number symbols.Minus = 15
symbol_number symbols.Append = 16
symbol_number symbols.Array = 17
symbol_number symbols.Begin = 18
symbol_number symbols.Const = 19
symbol_number symbols.Count = 20
symbol_number symbols.Else = 21
symbol_number symbols.End = 22
symbol_number symbols.Entry = 23
symbol_number symbols.Erase = 24
symbol_number symbols.First = 25
symbol_number symbols.Function = 26
symbol_number symbols.Has = 27
symbol_number symbols.If = 28
symbol_number symbols.Integer = 29
symbol_number symbols.Lookup = 30
symbol_number symbols.Not = 31
symbol_number symbols.Object = 32
symbol_number symbols.Of = 33
symbol_number symbols.Path = 34
symbol_number symbols.Procedure = 35
symbol_number symbols.Queue = 36
symbol_number symbols.Refuse = 37
symbol_number symbols.Store = 38
symbol_number symbols.Table = 39
symbol_number symbols.Take = 40
symbol_number symbols.Text = 41
symbol_number symbols.Then = 42
symbol_number symbols.Var = 43

abbrev pub same_symbol : Symbol → Symbol → Bool
same_symbol a b = symbol_number a == symbol_number b

-- how a symbol is written; a reserved word may be written in any case
abbrev pub symbol_text : Symbol → List ℕ
symbol_text symbols.OpenParen = codes "("
symbol_text symbols.CloseParen = codes ")"
symbol_text symbols.OpenBracket = codes "["
symbol_text symbols.CloseBracket = codes "]"
symbol_text symbols.Comma = codes ","
symbol_text symbols.Semicolon = codes ";"
symbol_text symbols.Colon = codes ":"
symbol_text symbols.Assign = codes ":="
symbol_text symbols.Equal = codes "="
symbol_text symbols.Differ = codes "<>"
symbol_text symbols.Less = codes "<"
symbol_text symbols.LessEqual = codes "<="
symbol_text symbols.Greater = codes ">"
symbol_text symbols.GreaterEqual = codes ">="
symbol_text symbols.Plus = codes "+"
symbol_text symbols.Minus = codes "-"
symbol_text symbols.Append = codes "append"
symbol_text symbols.Array = codes "array"
symbol_text symbols.Begin = codes "begin"
symbol_text symbols.Const = codes "const"
symbol_text symbols.Count = codes "count"
symbol_text symbols.Else = codes "else"
symbol_text symbols.End = codes "end"
symbol_text symbols.Entry = codes "entry"
symbol_text symbols.Erase = codes "erase"
symbol_text symbols.First = codes "first"
symbol_text symbols.Function = codes "function"
symbol_text symbols.Has = codes "has"
symbol_text symbols.If = codes "if"
symbol_text symbols.Integer = codes "integer"
symbol_text symbols.Lookup = codes "lookup"
symbol_text symbols.Not = codes "not"
symbol_text symbols.Object = codes "object"
symbol_text symbols.Of = codes "of"
symbol_text symbols.Path = codes "path"
symbol_text symbols.Procedure = codes "procedure"
symbol_text symbols.Queue = codes "queue"
symbol_text symbols.Refuse = codes "refuse"
symbol_text symbols.Store = codes "store"
symbol_text symbols.Table = codes "table"
symbol_text symbols.Take = codes "take"
symbol_text symbols.Text = codes "text"
symbol_text symbols.Then = codes "then"
symbol_text symbols.Var = codes "var"

pub data Lexeme : Type 0 where
  symbol : Symbol → Lexeme
  number : ℕ → Lexeme
  identifier : List ℕ → Lexeme
  string : List ℕ → Lexeme
  end_mark : Lexeme

abbrev pub lexeme_of : TokenKind → Lexeme
lexeme_of (kinds.Symbol s) = symbol s
lexeme_of (kinds.Number n) = number n
lexeme_of (kinds.Name name) = identifier name
lexeme_of (kinds.Text content) = string content.items
lexeme_of kinds.EndMark = end_mark

abbrev pub lexemes : List Token → List Lexeme
lexemes tokens = map (λ t. lexeme_of t.kind) tokens
