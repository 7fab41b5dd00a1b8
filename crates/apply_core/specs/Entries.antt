-- A spelling, entry by entry, and what a change of a value does to it.
use Rattle.std.specs.Prelude.{◌≡◌, ℕ, ◌+◌, ◌≤◌, List, [], ◌∷◌, ◌++◌, length, map, take, drop, Ok}
use Rattle.std.specs.List.{flat_map}
use Rattle.std.specs.FinMap as maps
use Rattle.value_core.specs.declared.datum.Datum.{Datum}
use Rattle.value_core.specs.Contents.{Contents, array, queue, table, kind_of, IsContents}
use Rattle.value_core.specs.Meaning.{with_element, without_oldest, with_newest, with_row, without_key}
use Rattle.value_bytes.specs.Spelling.{spelled_datum, spelled_row, header, spelling}

-- the spelling of each entry, in order: of an element, or of a row of a table
abbrev pub entries_of : Contents → List (List ℕ)
entries_of (array e xs) = map spelled_datum xs
entries_of (queue e xs) = map spelled_datum xs
entries_of (table e m) = map spelled_row (maps.entries m)

-- the bytes behind the header
abbrev pub behind_header : Contents → List ℕ
behind_header (array e xs) = flat_map spelled_datum xs
behind_header (queue e xs) = flat_map spelled_datum xs
behind_header (table e m) = flat_map spelled_row (maps.entries m)

-- bytes one behind the other
abbrev pub joined : List (List ℕ) → List ℕ
joined = flat_map (λ bytes. bytes)

-- a value is spelled by its header and its entries
abbrev pub SpelledByEntries : Type 0
SpelledByEntries = (v : Contents) → spelling v ≡ header (kind_of v) (length (entries_of v)) ++ joined (entries_of v)

-- these, with others in the place of so many from a place on
abbrev pub spliced : {X : Type 0} → List X → ℕ → ℕ → List X → List X
spliced xs place count new = take place xs ++ new ++ drop (place + count) xs

-- entries are those of before, but for these that stand at a place, where so many stood
pub record IsSplice (old new : Contents) (count : ℕ) (put : List (List ℕ)) : Type 0 where
  pub place : ℕ
  pub inside : place + count ≤ length (entries_of old)
  pub entries : entries_of new ≡ spliced (entries_of old) place count put

-- each change of a value is a splice of its entries: an element is put in the place of another, the oldest is taken, one is
-- added, a row is put in or in the place of another, a row goes
abbrev pub ChangesAreSplices : Type 0
ChangesAreSplices =
    (old new : Contents) → IsContents old → (k : List ℕ) (d : Datum) (i : ℕ)
    → (with_element old i d ≡ Ok new → IsSplice old new 1 (spelled_datum d ∷ []))
    × (without_oldest old ≡ Ok new → IsSplice old new 1 [])
    × (with_newest old d ≡ Ok new → IsSplice old new 0 (spelled_datum d ∷ []))
    × (with_row old k d ≡ Ok new → (count : ℕ) × (count ≤ 1) × IsSplice old new count (spelled_row (k, d) ∷ []))
    × (without_key old k ≡ Ok new → IsSplice old new 1 [])
