-- Where the holds of an object stand in a source, and the source without them.
use Rattle.std.specs.Prelude.{ℕ, ◌+◌, ◌==◌, Bool, true, false, List, [], ◌∷◌, map, Option, Some, None, nat_le, nat_lt}
use Rattle.std.specs.Prelude.{◌&&◌, ◌||◌, not, if◌then◌else◌}
use Rattle.path_tree.specs.declared.token.Symbol.{Symbol}
use Rattle.path_tree.specs.declared.token.Symbol.TheVariants as symbols
use Rattle.path_tree.specs.Lexeme.{Lexeme, symbol, number, identifier, string, end_mark, same_symbol}
use Rattle.path_tree.specs.Tokens.{Placed}
use Rattle.decl_parts.specs.Declarations.{begins_name}
use Rattle.decl_read.specs.Declarations.{is_object_word}
use Rattle.decl_read.specs.declared.words.HoldKeyword.TheVariants as words
use Rattle.decl_read.specs.Words.{word_at}

-- tokens without their places
abbrev pub lexemes_in : List Placed → List Lexeme
lexemes_in ts = map (λ t. t.lexeme) ts

abbrev pub begins_number : List Lexeme → Bool
begins_number [] = false
begins_number (number n ∷ ws) = true
begins_number (symbol s ∷ ws) = false
begins_number (identifier bytes ∷ ws) = false
begins_number (string bytes ∷ ws) = false
begins_number (end_mark ∷ ws) = false

abbrev pub name_behind : Option (List Lexeme) → Bool
name_behind None = false
name_behind (Some ws) = begins_name ws

abbrev pub number_behind : Option (List Lexeme) → Bool
number_behind None = false
number_behind (Some ws) = begins_number ws

-- Holds begin here: `hold` and a name, or `every` and a number. No two such tokens follow one another elsewhere.
abbrev pub begins_rules : List Lexeme → Bool
begins_rules ws = name_behind (word_at words.Hold ws) || number_behind (word_at words.Every ws)

-- what stands behind the next word `object`
abbrev pub behind_object : List Placed → Option (List Placed)
behind_object [] = None
behind_object (t ∷ ts) = if is_object_word t.lexeme then Some ts else behind_object ts

-- the holds of an object, and what stands behind them: from where they first begin, before the next word `object`
abbrev pub rules_at : List Placed → Option (List Placed)
rules_at [] = None
rules_at (t ∷ ts) =
    if is_object_word t.lexeme then None else if begins_rules (lexemes_in (t ∷ ts)) then Some (t ∷ ts) else rules_at ts

-- holds are made of names, numbers, commas and semicolons
abbrev pub is_of_rules : Lexeme → Bool
is_of_rules (symbol s) = same_symbol s symbols.Comma || same_symbol s symbols.Semicolon
is_of_rules (number n) = true
is_of_rules (identifier bytes) = true
is_of_rules (string bytes) = false
is_of_rules end_mark = false

-- where the first of these tokens begins, and where the last of those ends that holds can be made of
abbrev pub begin_of : List Placed → ℕ
begin_of [] = 0
begin_of (t ∷ ts) = t.start

abbrev pub end_of : ℕ → List Placed → ℕ
end_of at [] = at
end_of at (t ∷ ts) = if is_of_rules t.lexeme then end_of t.end ts else at

-- A byte in a span is a space, but that lines stay.
abbrev pub blank_at : ℕ → ℕ → ℕ → ℕ → ℕ
blank_at from to at b = if nat_le from at && nat_lt at to && not (b == 10) then 32 else b

-- these bytes, the first of which stands at this place, with a span of them blank
abbrev pub blank_span : ℕ → ℕ → ℕ → List ℕ → List ℕ
blank_span from to at [] = []
blank_span from to at (b ∷ bs) = blank_at from to at b ∷ blank_span from to (at + 1) bs

abbrev pub without : Option (List Placed) → List ℕ → List ℕ
without None source = source
without (Some ts) source = blank_span (begin_of ts) (end_of 0 ts) 0 source

-- a source without the holds of its objects: of the same length, and all else in its place
abbrev pub cut_by : List Placed → List ℕ → List ℕ
cut_by [] source = source
cut_by (t ∷ ts) source = cut_by ts (if is_object_word t.lexeme then without (rules_at ts) source else source)
