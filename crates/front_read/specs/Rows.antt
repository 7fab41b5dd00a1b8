-- Rows at the front of a text.
use Rattle.std.specs.Prelude.{◌≡◌, ℕ, Bool, true, false, List, [], ◌∷◌, ◌++◌, Option, MatchOption, Result, MatchResult, IfSome}
use Rattle.std.specs.Prelude.{Some, option_map}
use Rattle.std.specs.Borrow.{Bor}
use Rattle.word_core.specs.Words.{Word, bare, line_of}
use Rattle.word_core.specs.Text.{lines_of}
use Rattle.live_core.specs.Front.{Every}
use Rattle.live_core.specs.Text.{rows}
use Rattle.front_read.specs.Text.{begins}

-- what these words stand for was found, where they stand for something
abbrev pub Finds : {A X : Type 0} → (A → Type 0) → (A → List Word) → (X → A) → List Word → Option X → Type 0
Finds {A} Is words_of view words found =
    ((x : A) → Is x → words ≡ words_of x → option_map view found ≡ Some x) × IfSome found (λ x. Is (view x))

-- the row of something stands at the front of a text, and this stands behind it
pub record IsRow {X : Type 0} (Is : X → Type 0) (words : X → List Word) (text : List ℕ) (x : X)
    (rest : List ℕ) : Type 0 where
  pub is : Is x
  pub stands : text ≡ line_of (words x) ++ rest

-- no such row stands there
abbrev pub NoRow : {X : Type 0} → (X → Type 0) → (X → List Word) → List ℕ → Type 0
NoRow {X} Is words text = (x : X) (rest : List ℕ) → IsRow Is words text x rest → ⊥

-- what a row tells was found, and what stands behind it
abbrev pub Gives : {X : Type 0} → (X → Type 0) → (X → List Word) → List ℕ → Option (X × Bor (List ℕ)) → Type 0
Gives Is words text found =
    MatchOption found (NoRow Is words text) (λ r. IsRow Is words text r.0 r.1.now)

-- the same, for a row that is read already: there is no other one
abbrev pub GivesThis : {X : Type 0} → (X → List Word) → X → List ℕ → Option (X × Bor (List ℕ)) → Type 0
GivesThis words x text found =
    MatchOption found ((rest : List ℕ) → text ≡ line_of (words x) ++ rest → ⊥)
    (λ r. (r.0 ≡ x) × (text ≡ line_of (words x) ++ r.1.now))

-- what a row tells was added, and this stands behind it
abbrev pub Takes : {X : Type 0} → (X → Type 0) → (X → List Word) → List ℕ → List X → Option (Bor (List ℕ)) → List X →
    Type 0
Takes {X} Is words text old found new =
    MatchOption found (NoRow Is words text)
    (λ rest. (x : X) × IsRow Is words text x rest.now × (new ≡ old ++ x ∷ []))

-- the same, for a row that is read already: there is no other one
abbrev pub TakesThis : {X : Type 0} → (X → List Word) → X → List ℕ → List X → Option (Bor (List ℕ)) → List X → Type 0
TakesThis words x text old found new =
    MatchOption found ((rest : List ℕ) → text ≡ line_of (words x) ++ rest → ⊥)
    (λ rest. (text ≡ line_of (words x) ++ rest.now) × (new ≡ old ++ x ∷ []))

-- the words of a row that begins with this word
abbrev pub row_words : {X : Type 0} → List ℕ → (X → List Word) → X → List Word
row_words verb words x = bare verb ∷ words x

-- a text begins with this word and a space
abbrev pub has_verb : List ℕ → List ℕ → Bool
has_verb verb text = begins text (verb ++ 32 ∷ [])

-- all rows of a kind, and what stands behind them
pub record AreRows {X : Type 0} (Is : X → Type 0) (verb : List ℕ) (words : X → List Word) (text : List ℕ)
    (xs : List X) (rest : List ℕ) : Type 0 where
  pub each : Every Is xs
  pub stand : text ≡ lines_of (rows verb words xs) ++ rest

-- behind some rows of a kind something stands that has their first word, and is no such row
pub record Breaks {X : Type 0} (Is : X → Type 0) (verb : List ℕ) (words : X → List Word) (text rest : List ℕ) : Type 0
  where
    pub before : List X
    pub rows_are : AreRows Is verb words text before rest
    pub goes : has_verb verb rest ≡ true
    pub none : NoRow Is (row_words verb words) rest

-- all rows of a kind were taken, or there is one that breaks them
abbrev pub TakesAll : {X : Type 0} → (X → Type 0) → List ℕ → (X → List Word) → List ℕ →
    Result (Bor (List ℕ)) (Bor (List ℕ)) → List X → Type 0
TakesAll Is verb words text found new =
    MatchResult found (λ rest. AreRows Is verb words text new rest.now × (has_verb verb rest.now ≡ false))
    (λ rest. Breaks Is verb words text rest.now)
