-- What a part holds.
use Rattle.std.specs.Prelude.{ℕ, ◌≤◌, List, [], length, All}
use Rattle.std.specs.FinMap as map
use Rattle.value_core.specs.declared.datum.Datum.{Datum}
use Rattle.value_core.specs.declared.kind.Elem.{Elem}
use Rattle.value_core.specs.declared.kind.Kind.{Kind}
use Rattle.value_core.specs.declared.kind.Kind.TheVariants as kind
use Rattle.value_core.specs.Limits.{most_elements}
use Rattle.value_core.specs.declared.format.Format.{Format}
use Rattle.value_core.specs.declared.format.Format.TheVariants.{Second}
use Rattle.value_core.specs.Format.{IsTextIn}
use Rattle.value_core.specs.Datum.{IsElementIn}
use Rattle.value_core.specs.TextOrder.{text_cmp}

-- an array and a queue (its oldest first) are lists, a table is a finite map from texts
pub data Contents : Type 0 where
  array : Elem → List Datum → Contents
  queue : Elem → List Datum → Contents
  table : Elem → map.FinMap text_cmp Datum → Contents

-- the kind of a value
abbrev pub kind_of : Contents → Kind
kind_of (array e xs) = kind.Array (length xs) e
kind_of (queue e xs) = kind.Queue e
kind_of (table e m) = kind.Table e

-- the elements of an array or a queue, in order
abbrev pub elements_of : Contents → List Datum
elements_of (array e xs) = xs
elements_of (queue e xs) = xs
elements_of (table e m) = []

-- the rows of a table, in the order of their keys
abbrev pub rows_of : Contents → List (List ℕ × Datum)
rows_of (array e xs) = []
rows_of (queue e xs) = []
rows_of (table e m) = map.entries m

-- at most 1,024 elements of one sort, for which a format has room
pub record AreElementsIn (f : Format) (e : Elem) (xs : List Datum) : Type 0 where
  pub each : All (IsElementIn f e) xs
  pub few : length xs ≤ most_elements

-- a text, and an element under it
pub record IsRowIn (f : Format) (e : Elem) (row : List ℕ × Datum) : Type 0 where
  pub key : IsTextIn f row.0
  pub element : IsElementIn f e row.1

-- at most 1,024 elements of one sort, under texts
pub record AreRowsIn (f : Format) (e : Elem) (m : map.FinMap text_cmp Datum) : Type 0 where
  pub each : All (IsRowIn f e) (map.entries m)
  pub few : map.len m ≤ most_elements

-- the contents for which a format has room
abbrev pub IsContentsIn : Format → Contents → Type 0
IsContentsIn f (array e xs) = AreElementsIn f e xs
IsContentsIn f (queue e xs) = AreElementsIn f e xs
IsContentsIn f (table e m) = AreRowsIn f e m

-- elements of a part, as the second format has room for them: texts of up to 1,000 bytes
abbrev pub AreElements : Elem → List Datum → Type 0
AreElements = AreElementsIn Second

abbrev pub IsRow : Elem → List ℕ × Datum → Type 0
IsRow = IsRowIn Second

abbrev pub AreRows : Elem → map.FinMap text_cmp Datum → Type 0
AreRows = AreRowsIn Second

-- the contents that a value can have
abbrev pub IsContents : Contents → Type 0
IsContents = IsContentsIn Second
