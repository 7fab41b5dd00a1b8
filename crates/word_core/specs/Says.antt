-- What a line says, where that is a function of its words.
use Rattle.std.specs.Prelude.{◌≡◌, ℕ, List, Option, Some}
use Rattle.word_core.specs.Words.{Word, AreWords}

-- the line has words, and these say this
abbrev pub Says : {A : Type 0} → (List Word → Option A) → List ℕ → A → Type 0
Says said_of line said = (words : List Word) × AreWords line words × (said_of words ≡ Some said)
