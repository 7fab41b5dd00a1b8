-- How a call ended, in words.
use Rattle.std.specs.Prelude.{◌≡◌, ℕ, List, [], ◌∷◌, Option, Some, None, codes, decimal, if◌then◌else◌}
use Rattle.std.specs.Str.{bytes_eq}
use Rattle.value_core.specs.declared.datum.Datum.{Datum}
use Rattle.value_core.specs.Datum.{IsDatum}
use Rattle.word_core.specs.Words.{Word, bare, IsWord}
use Rattle.word_core.specs.Data.{◌>>=◌, datum_of, datum_word, bare_of, only_bare}

-- it was done and replied this, if anything; it was refused by a word; it failed for the cause that a word says
pub data Ending : Type 0 where
  done : Option Datum → Ending
  refused : List ℕ → Ending
  failed : List ℕ → Ending

-- what is told is an integer or a text, or a word
abbrev pub IsEnding : Ending → Type 0
IsEnding (done None) = Unit {0}
IsEnding (done (Some datum)) = IsDatum datum
IsEnding (refused word) = IsWord (bare word)
IsEnding (failed word) = IsWord (bare word)

-- `done`, `done VALUE`, `refused WORD`, `failed WORD`
abbrev pub ending_words : Ending → List Word
ending_words (done None) = bare (codes "done") ∷ []
ending_words (done (Some datum)) = bare (codes "done") ∷ datum_word datum ∷ []
ending_words (refused word) = bare (codes "refused") ∷ bare word ∷ []
ending_words (failed word) = bare (codes "failed") ∷ bare word ∷ []

-- `done N`, `done N VALUE`, `refused N WORD`, `failed N WORD`: how a call ended, with its number behind the first word
abbrev pub finish_words : ℕ → Ending → List Word
finish_words number (done None) = bare (codes "done") ∷ bare (decimal number) ∷ []
finish_words number (done (Some datum)) = bare (codes "done") ∷ bare (decimal number) ∷ datum_word datum ∷ []
finish_words number (refused word) = bare (codes "refused") ∷ bare (decimal number) ∷ bare word ∷ []
finish_words number (failed word) = bare (codes "failed") ∷ bare (decimal number) ∷ bare word ∷ []

-- what stands behind `done`
abbrev pub done_of : List Word → Option Ending
done_of [] = Some (done None)
done_of (word ∷ []) = datum_of word >>= λ datum. Some (done (Some datum))
done_of (word ∷ other ∷ more) = None

-- what stands behind this first word
abbrev pub ended_by : List ℕ → List Word → Option Ending
ended_by verb words =
    if bytes_eq verb (codes "done") then done_of words
    else if bytes_eq verb (codes "refused") then (only_bare words >>= λ word. Some (refused word))
    else if bytes_eq verb (codes "failed") then (only_bare words >>= λ word. Some (failed word))
    else None

-- how these words say that a call ended
abbrev pub ending_of : List Word → Option Ending
ending_of words = bare_of words >>= λ verb. ended_by verb.0 verb.1

-- these words say that a call ended so
abbrev pub TellEnding : Ending → List Word → Type 0
TellEnding (done None) words = words ≡ bare (codes "done") ∷ []
TellEnding (done (Some datum)) words =
    (word : Word) × (words ≡ bare (codes "done") ∷ word ∷ []) × (datum_of word ≡ Some datum)
TellEnding (refused word) words = words ≡ bare (codes "refused") ∷ bare word ∷ []
TellEnding (failed word) words = words ≡ bare (codes "failed") ∷ bare word ∷ []
