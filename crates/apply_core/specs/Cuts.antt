-- Rows of a table one behind the other, cut where a key stands, or would go.
use Rattle.std.specs.Prelude.{◌≡◌, ℕ, List, ◌∷◌, ◌++◌, All}
use Rattle.std.specs.List.{flat_map}
use Rattle.std.specs.declared.cmp.Ordering.TheVariants.{Less, Greater}
use Rattle.value_core.specs.TextOrder.{text_cmp}
use Rattle.value_core.specs.declared.datum.Datum.{Datum}
use Rattle.value_bytes.specs.Spelling.{spelled_datum, spelled_row}

-- the key of a row comes before this one, or after it
abbrev pub IsLower : List ℕ → List ℕ × Datum → Type 0
IsLower key row = text_cmp row.0 key ≡ Less

abbrev pub IsHigher : List ℕ → List ℕ × Datum → Type 0
IsHigher key row = text_cmp row.0 key ≡ Greater

-- the key stands in one of these rows: the bytes from its row on, and those behind the key in it
pub record StandsIn (es : List (List ℕ × Datum)) (key bytes rest value : List ℕ) : Type 0 where
  pub before : List (List ℕ × Datum)
  pub d : Datum
  pub later : List (List ℕ × Datum)
  pub parts : es ≡ before ++ (key, d) ∷ later
  pub lower : All (IsLower key) before
  pub front : bytes ≡ flat_map spelled_row before ++ rest
  pub back : value ≡ spelled_datum d ++ flat_map spelled_row later

-- the key stands in none of these rows: the bytes from its place on
pub record GapIn (es : List (List ℕ × Datum)) (key bytes rest : List ℕ) : Type 0 where
  pub before : List (List ℕ × Datum)
  pub later : List (List ℕ × Datum)
  pub parts : es ≡ before ++ later
  pub lower : All (IsLower key) before
  pub higher : All (IsHigher key) later
  pub front : bytes ≡ flat_map spelled_row before ++ rest
  pub back : rest ≡ flat_map spelled_row later
