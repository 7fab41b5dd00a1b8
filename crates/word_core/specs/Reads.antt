-- What is read of a line from its front.
use Rattle.std.specs.Prelude.{◌≡◌, ℕ, List, [], ◌∷◌, ◌++◌, Option, Some, None, option_map, MatchOption, IfSome}
use Rattle.std.specs.Borrow.{Bor}
use Rattle.value_core.specs.declared.datum.Datum.{Datum}
use Rattle.word_core.specs.Words.{Word, bare, IsFirst, AreWords}
use Rattle.word_core.specs.Data.{bare_of, datum_of}

-- all of a line is words
abbrev pub HasWords : List ℕ → Type 0
HasWords line = (words : List Word) × AreWords line words

-- what was found is what the words of a line say, and something only where all of it is words
abbrev pub Reads : {A X : Type 0} → (List Word → Option A) → (X → A) → List ℕ → Option X → Type 0
Reads f view line found =
    ((words : List Word) → AreWords line words → option_map view found ≡ f words) × IfSome found (λ x. HasWords line)

-- the first word of a line, where it stands bare, and what stands behind it
abbrev pub IsFront : List ℕ → Option (Bor (List ℕ) × Bor (List ℕ)) → Type 0
IsFront line found =
    MatchOption found ((words : List Word) → AreWords line words → bare_of words ≡ None)
    (λ r. IsFirst line (bare r.0.now) r.1.now)

-- the integer or text of the first word
abbrev pub first_datum : List Word → Option Datum
first_datum [] = None
first_datum (word ∷ more) = datum_of word

-- the datum at the front of a line was added, and this stands behind it
abbrev pub Adds : List ℕ → List Datum → Option (Bor (List ℕ)) → List Datum → Type 0
Adds line old found new = MatchOption found ((words : List Word) → AreWords line words → first_datum words ≡ None)
    (λ rest. (word : Word) × (datum : Datum) × IsFirst line word rest.now × (datum_of word ≡ Some datum)
    × (new ≡ old ++ datum ∷ []))
