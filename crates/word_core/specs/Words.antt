-- The words of a line.
use Rattle.std.specs.Prelude.{◌≡◌, ◌≢◌, ℕ, ◌==◌, List, [], ◌∷◌, ◌++◌, All, if◌then◌else◌}
use Rattle.value_core.specs.Spaces.{drop_spaces, NoSpace, EndsWord}
use Rattle.value_core.specs.Plain.{IsText}

-- a word is bytes as they stand, or a text
pub data Word : Type 0 where
  bare : List ℕ → Word
  quoted : List ℕ → Word

-- a text in which each apostrophe is doubled
abbrev pub doubled : List ℕ → List ℕ
doubled [] = []
doubled (b ∷ text) = if b == 39 then 39 ∷ 39 ∷ doubled text else b ∷ doubled text

-- how a word is written: a text stands between apostrophes
abbrev pub word_text : Word → List ℕ
word_text (bare bytes) = bytes
word_text (quoted text) = 39 ∷ doubled text ++ 39 ∷ []

-- bare bytes are some, none is a space, and the first is no apostrophe
abbrev pub IsWord : Word → Type 0
IsWord (bare []) = ⊥
IsWord (bare (b ∷ bytes)) = (b ≢ 39) × NoSpace (b ∷ bytes)
IsWord (quoted text) = IsText text

-- this is the first word of a line, and behind it stands this rest
pub record IsFirst (line : List ℕ) (word : Word) (rest : List ℕ) : Type 0 where
  pub is : IsWord word
  pub ends : EndsWord rest
  pub stands : drop_spaces line ≡ word_text word ++ rest

-- these are the words of a line
abbrev pub AreWords : List ℕ → List Word → Type 0
AreWords line [] = drop_spaces line ≡ []
AreWords line (word ∷ more) = (rest : List ℕ) × IsFirst line word rest × AreWords rest more

abbrev pub EachWord : List Word → Type 0
EachWord [] = Unit {0}
EachWord (word ∷ more) = IsWord word × EachWord more

-- no bare word has the end of a line in it
abbrev pub EachClear : List Word → Type 0
EachClear [] = Unit {0}
EachClear (bare bytes ∷ more) = All (λ b. b ≢ 10) bytes × EachClear more
EachClear (quoted text ∷ more) = EachClear more

-- words as the lines that are written have them, with one space between two
abbrev pub behind_word : List Word → List ℕ
behind_word [] = []
behind_word (word ∷ more) = 32 ∷ word_text word ++ behind_word more

abbrev pub words_text : List Word → List ℕ
words_text [] = []
words_text (word ∷ more) = word_text word ++ behind_word more

-- a line of these words, with its end
abbrev pub line_of : List Word → List ℕ
line_of words = words_text words ++ 10 ∷ []
