-- Words that are words in their places alone: anywhere else they are names.
use Rattle.std.specs.Prelude.{ℕ, Bool, List, [], ◌∷◌, Option, Some, None, codes, bytes_eq, is_some, if◌then◌else◌}
use Rattle.path_tree.specs.Lexeme.{Lexeme, symbol, number, identifier, string, end_mark}
use Rattle.decl_read.specs.declared.words.HoldKeyword.{HoldKeyword}
use Rattle.decl_read.specs.declared.words.HoldKeyword.TheVariants as words

-- how a word is written; it may be written in any case
abbrev pub word_text : HoldKeyword → List ℕ
word_text words.Hold = codes "hold"
word_text words.Until = codes "until"
word_text words.By = codes "by"
word_text words.Any = codes "any"
word_text words.Every = codes "every"
word_text words.Call = codes "call"

-- behind a word
abbrev pub word_at : HoldKeyword → List Lexeme → Option (List Lexeme)
word_at w [] = None
word_at w (identifier bytes ∷ ws) = if bytes_eq bytes (word_text w) then Some ws else None
word_at w (symbol s ∷ ws) = None
word_at w (number n ∷ ws) = None
word_at w (string bytes ∷ ws) = None
word_at w (end_mark ∷ ws) = None

-- whether a word stands in front
abbrev pub begins_word : HoldKeyword → List Lexeme → Bool
begins_word w ws = is_some (word_at w ws)

-- a word where it is one
abbrev pub word : HoldKeyword → Lexeme
word w = identifier (word_text w)
