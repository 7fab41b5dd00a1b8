-- Integers, texts and the names of sessions as words.
use Rattle.std.specs.Prelude.{ℕ, ◌&&◌, nat_lt, ◌==◌, List, [], ◌∷◌, length, Option, Some, None, option_map, decimal}
use Rattle.std.specs.Prelude.{if◌then◌else◌}
use Rattle.std.specs.Str.{all_ascii_digits}
use Rattle.std.specs.Str.Parse.{digits_value}
use Rattle.value_core.specs.declared.datum.Datum.{Datum}
use Rattle.value_core.specs.declared.datum.Datum.TheVariants.{Integer, Text}
use Rattle.word_core.specs.Words.{Word, bare, quoted}

-- an integer is decimal digits of a value up to 4294967295
abbrev pub integer_of : List ℕ → Option ℕ
integer_of bytes =
    if nat_lt 0 (length bytes) && (all_ascii_digits bytes && nat_lt (digits_value 10 bytes) 4294967296) then Some
    (digits_value 10 bytes) else None

-- so is a number of 64 bits, of a value below 2 ^ 64
abbrev pub long_of : List ℕ → Option ℕ
long_of bytes =
    if nat_lt 0 (length bytes) && (all_ascii_digits bytes && nat_lt (digits_value 10 bytes) 18446744073709551616) then
    Some (digits_value 10 bytes) else None

-- `sK` is the session K
abbrev pub session_of : List ℕ → Option ℕ
session_of [] = None
session_of (b ∷ bytes) = if b == 115 then integer_of bytes else None

-- an integer stands bare, a text between apostrophes
abbrev pub datum_of : Word → Option Datum
datum_of (bare bytes) = option_map Integer (integer_of bytes)
datum_of (quoted text) = Some (Text text)

-- what comes behind, where there is something
infixl 10 ◌>>=◌
abbrev pub ◌>>=◌ : {A B : Type 0} → Option A → (A → Option B) → Option B
None >>= f = None
(Some x) >>= f = f x

-- the integers and texts of words
abbrev pub data_of : List Word → Option (List Datum)
data_of [] = Some []
data_of (word ∷ more) = datum_of word >>= λ datum. data_of more >>= λ others. Some (datum ∷ others)

-- the first word, where it stands bare, and the words behind it
abbrev pub bare_of : List Word → Option (List ℕ × List Word)
bare_of [] = None
bare_of (bare bytes ∷ more) = Some (bytes, more)
bare_of (quoted text ∷ more) = None

-- something, where no word is left
abbrev pub at_end : {A : Type 0} → List Word → A → Option A
at_end [] x = Some x
at_end (word ∷ more) x = None

-- the one word, where it stands bare
abbrev pub only_bare : List Word → Option (List ℕ)
only_bare words = bare_of words >>= λ first. at_end first.1 first.0

-- the integer that the one word is
abbrev pub only_integer : List Word → Option ℕ
only_integer words = only_bare words >>= integer_of

-- how a session is written
abbrev pub session_bytes : ℕ → List ℕ
session_bytes number = 115 ∷ decimal number

abbrev pub session_word : ℕ → Word
session_word number = bare (session_bytes number)

-- how an integer and a text are written
abbrev pub datum_word : Datum → Word
datum_word (Integer n) = bare (decimal n)
datum_word (Text text) = quoted text
