-- Words, without where their bytes lie.
use Rattle.std.specs.Prelude.{◌≡◌, List, [], ℕ, map, Option, MatchOption, decimal}
use Rattle.std.specs.Global.{Vec}
use Rattle.std.specs.Borrow.{Bor}
use Rattle.word_core.specs.declared.word.Word.{Word}
use Rattle.word_core.specs.declared.word.Word.TheVariants.{Bare, Quoted}
use Rattle.word_core.specs.declared.next.Next.{Next}
use Rattle.word_core.specs.declared.next.Next.TheVariants as next
use Rattle.word_core.specs.declared.word.Written.{Written}
use Rattle.word_core.specs.declared.word.Written.TheVariants as written
use Rattle.word_core.specs.declared.ending.Ending as declared
use Rattle.word_core.specs.declared.ending.Ending.TheVariants as endings
use Rattle.value_core.specs.Spaces.{drop_spaces}
use Rattle.word_core.specs.Words as words
use Rattle.word_core.specs.Data.{datum_word, session_word}
use Rattle.word_core.specs.Ending as ending

abbrev pub word_of : Word → words.Word
word_of (Bare bytes) = words.bare bytes.now
word_of (Quoted text) = words.quoted text

-- what stands first in a line
abbrev pub IsNext : List ℕ → Next → Type 0
IsNext line next.Nothing = drop_spaces line ≡ []
IsNext line (next.Found word rest) = words.IsFirst line (word_of word) rest.now
IsNext line next.Bad = (all : List words.Word) → words.AreWords line all → ⊥

abbrev pub words_of : List Word → List words.Word
words_of all = map word_of all

-- the words of a line, or none where the line has none
abbrev pub AreWordsOf : List ℕ → Option (Vec Word) → Type 0
AreWordsOf line found =
    MatchOption found ((all : List words.Word) → words.AreWords line all → ⊥)
    (λ v. words.AreWords line (words_of v.items))

-- bytes, and the words behind them
abbrev pub bare_view : Bor (List ℕ) × Bor (List Word) → List ℕ × List words.Word
bare_view x = (x.0.now, words_of x.1.now)

-- how a word is written
abbrev pub written_word : Written → words.Word
written_word (written.Bare bytes) = words.bare bytes.now
written_word (written.Integer number) = words.bare (decimal number)
written_word (written.Session number) = session_word number
written_word (written.Datum datum) = datum_word datum.now

abbrev pub ending_view : declared.Ending → ending.Ending
ending_view (endings.Done reply) = ending.done reply
ending_view (endings.Refused word) = ending.refused word.now
ending_view (endings.Failed word) = ending.failed word.now
