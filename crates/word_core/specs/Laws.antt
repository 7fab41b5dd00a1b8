-- Laws of words.
use Rattle.std.specs.Prelude.{◌≡◌, ◌≢◌, ◌↔◌, ◌<◌, ◌^◌, ℕ, List, Option, Some, All, map, decimal}
use Rattle.value_core.specs.declared.datum.Datum.{Datum}
use Rattle.value_core.specs.Datum.{IsDatum}
use Rattle.value_core.specs.Contents.{Contents, IsContents, kind_of}
use Rattle.word_core.specs.Words.{Word, bare, IsWord, AreWords, EachWord, EachClear, words_text}
use Rattle.word_core.specs.Data.{integer_of, session_of, session_bytes, data_of, datum_word, session_word}
use Rattle.word_core.specs.Ending.{Ending, IsEnding, ending_words, finish_words, ending_of, TellEnding}
use Rattle.word_core.specs.Says.{Says}
use Rattle.word_core.specs.Show.{value_text}

-- a line has its words in one way
abbrev pub WordsUnique : Type 0
WordsUnique = (line : List ℕ) (a b : List Word) → AreWords line a → AreWords line b → a ≡ b

-- a line says one thing, whatever is asked of its words
abbrev pub SaidOnce : Type 0 → Type 0
SaidOnce A =
    (said_of : List Word → Option A) (line : List ℕ) (a b : A) → Says said_of line a → Says said_of line b → a ≡ b

-- what is written as words has these words
abbrev pub WrittenWords : Type 0
WrittenWords = (words : List Word) → EachWord words → AreWords (words_text words) words

-- what is written as words has no line end inside, where no bare word has one
abbrev pub WrittenClear : Type 0
WrittenClear = (words : List Word) → EachWord words → EachClear words → All (λ b. b ≢ 10) (words_text words)

-- an integer that is written is a word, and is read from it
abbrev pub WrittenInteger : Type 0
WrittenInteger = (n : ℕ) → n < 2 ^ 32 → IsWord (bare (decimal n)) × (integer_of (decimal n) ≡ Some n)

-- a session that is written is a word, and is read from it
abbrev pub WrittenSession : Type 0
WrittenSession = (n : ℕ) → n < 2 ^ 32 → IsWord (session_word n) × (session_of (session_bytes n) ≡ Some n)

-- integers and texts that are written are words without line ends, and are read from them
abbrev pub WrittenData : Type 0
WrittenData = (elements : List Datum) → All IsDatum elements
    → EachWord (map datum_word elements) × EachClear (map datum_word elements)
    × (data_of (map datum_word elements) ≡ Some elements)

-- words are read as how a call ended exactly where they say so
abbrev pub EndingExact : Type 0
EndingExact = (words : List Word) (ending : Ending) → (ending_of words ≡ Some ending) ↔ TellEnding ending words

-- how a call ended is written in words, and is read from them
abbrev pub WrittenEnding : Type 0
WrittenEnding =
    (ending : Ending) → IsEnding ending → EachWord (ending_words ending)
    × (ending_of (ending_words ending) ≡ Some ending)

-- a line that tells how a call ended has these words
abbrev pub WrittenFinish : Type 0
WrittenFinish =
    (n : ℕ) (ending : Ending) → n < 2 ^ 64 → IsEnding ending →
    AreWords (words_text (finish_words n ending)) (finish_words n ending)

-- what is shown of a value tells it, among the values of its kind
abbrev pub ShownApart : Type 0
ShownApart =
    (first second : Contents) → IsContents first → IsContents second → kind_of first ≡ kind_of second →
    value_text first ≡ value_text second → first ≡ second
