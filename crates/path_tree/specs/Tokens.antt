-- The tokens of a source, and where they stand.
use Rattle.std.specs.Prelude.{◌≡◌, ◌≢◌, ◌==◌, if◌then◌else◌, ℕ, ◌+◌, ◌<◌, ◌≤◌, ◌⊎◌, List, [], ◌∷◌, ◌++◌, map, length}
use Rattle.std.specs.Prelude.{slice_index, slice_range}
use Rattle.std.specs.Str.{str_to_ascii_lowercase}
use Rattle.std.specs.Str.Parse.{digits_value}
use Rattle.path_tree.specs.declared.token.Token.{Token}
use Rattle.path_tree.specs.declared.token.Symbol.{Symbol}
use Rattle.path_tree.specs.declared.lex.fault.LexFault.{LexFault}
use Rattle.path_tree.specs.declared.lex.fault.LexFault.TheVariants as faults
use Rattle.path_tree.specs.Identifier.{IsLetter, IsWordByte, IsDigit}
use Rattle.path_tree.specs.Lexeme.{Lexeme, symbol, number, identifier, string, end_mark, symbol_number, symbol_text}
use Rattle.path_tree.specs.Lexeme.{lexeme_of}
use Rattle.path_tree.specs.Gap.{IsBlank, IsGap, OpensComment, IsOpenComment}

-- a lexeme and its span, from its first byte up to, not including, its end
pub record Placed : Type 0 where
  pub lexeme : Lexeme
  pub start : ℕ
  pub end : ℕ

abbrev pub placed : Token → Placed
placed t = record { lexeme = lexeme_of t.kind; start = t.start; end = t.end }

-- tokens as lexemes with their spans
abbrev pub placed_tokens : List Token → List Placed
placed_tokens tokens = map placed tokens

-- the first 16 symbols are signs, the others are reserved words
abbrev pub IsSign : Symbol → Type 0
IsSign s = symbol_number s < 16

abbrev pub IsReserved : Symbol → Type 0
IsReserved s = 16 ≤ symbol_number s

-- the longest run of such bytes from one place on ends at the other
abbrev pub IsRun : (ℕ → Type 0) → List ℕ → ℕ → ℕ → Type 0
IsRun P source from to =
    (from < to) × (to ≤ length source) × ((k : ℕ) → from ≤ k → k < to → P (slice_index source k))
    × (to < length source → P (slice_index source to) → ⊥)

-- an identifier or a reserved word: a letter, and then letters, digits and underscores, as many as stand there, at
-- most 64 bytes in all
abbrev pub IsWord : List ℕ → ℕ → ℕ → Type 0
IsWord source from to = IsLetter (slice_index source from) × IsRun IsWordByte source from to × (to ≤ from + 64)

-- a sign stands there, and a longer one does not; `(` before `*` is no sign
abbrev pub IsSignAt : List ℕ → Symbol → ℕ → ℕ → Type 0
IsSignAt source s from to =
    IsSign s × (from < to) × (to ≤ length source) × (slice_range source from to ≡ symbol_text s)
    × ((other : Symbol) (end : ℕ) → IsSign other → end ≤ length source →
    slice_range source from end ≡ symbol_text other → end ≤ to)
    × (OpensComment source from → ⊥)

-- what a string may hold
abbrev pub IsTextByte : ℕ → Type 0
IsTextByte b = (32 ≤ b) × (b ≤ 126)

-- the content of a string stands from one place to the other, each apostrophe in it doubled
abbrev pub IsContent : List ℕ → ℕ → List ℕ → ℕ → Type 0
IsContent source from [] to = from ≡ to
IsContent source from (b ∷ content) to =
    IsTextByte b × (slice_index source from ≡ b) × (b ≡ 39 → slice_index source (from + 1) ≡ 39)
    × IsContent source (from + (if b == 39 then 2 else 1)) content to

-- the most bytes of a string's content
abbrev pub most_string_bytes : ℕ
most_string_bytes = 1000

-- a string: at most so many bytes between two apostrophes, the last of which is no doubled one
abbrev pub IsString : List ℕ → List ℕ → ℕ → ℕ → Type 0
IsString source content from to =
    (close : ℕ) × (slice_index source from ≡ 39) × IsContent source (from + 1) content close
    × (length content ≤ most_string_bytes)
    × (slice_index source close ≡ 39) × (slice_index source (close + 1) ≢ 39) × (to ≡ close + 1)

-- a token of this lexeme stands from one place to the other
abbrev pub IsToken : List ℕ → Lexeme → ℕ → ℕ → Type 0
IsToken source (symbol s) from to =
    IsSignAt source s from to ⊎ (IsReserved s × IsWord source from to
    × (str_to_ascii_lowercase (slice_range source from to) ≡ symbol_text s))
IsToken source (number n) from to =
    IsRun IsDigit source from to × (n ≡ digits_value 10 (slice_range source from to)) × (n ≤ 4294967295)
IsToken source (identifier name) from to =
    IsWord source from to × (name ≡ str_to_ascii_lowercase (slice_range source from to))
    × ((s : Symbol) → IsReserved s → name ≢ symbol_text s)
IsToken source (string content) from to = IsString source content from to
IsToken source end_mark from to = ⊥

-- these tokens, with a gap before each, stand from one place to the other
abbrev pub Tokens : List ℕ → ℕ → List Placed → ℕ → Type 0
Tokens source from [] to = from ≡ to
Tokens source from (t ∷ ts) to =
    IsGap source from t.start × IsToken source t.lexeme t.start t.end × Tokens source t.end ts to

abbrev pub end_at : ℕ → Placed
end_at at = record { lexeme = end_mark; start = at; end = at }

-- these are the tokens of the whole source: gaps part them, and the end mark is the last, with an empty span at the end
pub record AreTokens (source : List ℕ) (all : List Placed) : Type 0 where
  pub tokens : List Placed
  pub last : ℕ
  pub in_order : Tokens source 0 tokens last
  pub gap : IsGap source last (length source)
  pub ends : all ≡ tokens ++ end_at (length source) ∷ []

-- no blank, comment, word, number, string or sign begins with this byte
abbrev pub IsStray : List ℕ → ℕ → Type 0
IsStray source at =
    (at < length source) × (IsBlank (slice_index source at) → ⊥) × (OpensComment source at → ⊥)
    × (IsLetter (slice_index source at) → ⊥) × (IsDigit (slice_index source at) → ⊥) × (slice_index source at ≢ 39)
    × ((s : Symbol) (end : ℕ) → IsSign s → end ≤ length source → slice_range source at end ≡ symbol_text s → ⊥)

-- a letter, and at least 64 word bytes after it
abbrev pub IsLongWord : List ℕ → ℕ → Type 0
IsLongWord source from =
    IsLetter (slice_index source from) × ((k : ℕ) → from ≤ k → k ≤ from + 64 → IsWordByte (slice_index source k))

-- the digits of a number past the limit
abbrev pub IsLargeNumber : List ℕ → ℕ → Type 0
IsLargeNumber source from =
    (to : ℕ) × IsRun IsDigit source from to × (4294967295 < digits_value 10 (slice_range source from to))

-- an apostrophe, and content of this many bytes up to a place
abbrev pub IsStringStart : List ℕ → ℕ → ℕ → ℕ → Type 0
IsStringStart source from count at =
    (content : List ℕ) × (slice_index source from ≡ 39) × IsContent source (from + 1) content at
    × (length content ≡ count)

-- a string goes on to a byte that it may not hold, other than a LF, which ends the line
abbrev pub IsBadInString : List ℕ → ℕ → ℕ → Type 0
IsBadInString source from at =
    (count : ℕ) × IsStringStart source from count at × (count ≤ most_string_bytes) × (at < length source)
    × (IsTextByte (slice_index source at) → ⊥) × (slice_index source at ≢ 10)

-- a string goes on to the end of its line or past the most bytes
abbrev pub IsOpenString : List ℕ → ℕ → Type 0
IsOpenString source from =
    (count : ℕ) × (at : ℕ) × IsStringStart source from count at
    × (((count ≤ most_string_bytes) × ((length source ≤ at) ⊎ (slice_index source at ≡ 10)))
    ⊎ (count ≡ most_string_bytes + 1))

-- what stands at a place is no token and no gap, and this is its fault
abbrev pub IsFaultAt : List ℕ → ℕ → LexFault → Type 0
IsFaultAt source from faults.TooLong = ⊥
IsFaultAt source from (faults.BadByte at) =
    (IsStray source from × (at ≡ from)) ⊎ ((IsLongWord source from × (at ≡ from + 64)) ⊎ IsBadInString source from at)
IsFaultAt source from (faults.OpenComment at) = IsOpenComment source from × (at ≡ from)
IsFaultAt source from (faults.OpenString at) = IsOpenString source from × (at ≡ from)
IsFaultAt source from (faults.BadNumber at) = IsLargeNumber source from × (at ≡ from)
IsFaultAt source from faults.Memory = ⊥

-- the first fault of a source, from the left: tokens and gaps stand before it
pub record IsFirstFault (source : List ℕ) (fault : LexFault) : Type 0 where
  pub tokens : List Placed
  pub last : ℕ
  pub from : ℕ
  pub in_order : Tokens source 0 tokens last
  pub gap : IsGap source last from
  pub fault_there : IsFaultAt source from fault
