-- The elements of a table, integers and texts apart.
use Rattle.std.specs.Prelude.{ℕ, List, map}
use Rattle.std.specs.FinMap as map
use Rattle.value_core.specs.declared.datum.Datum.{Datum}
use Rattle.value_core.specs.declared.datum.Datum.TheVariants as datum
use Rattle.value_core.specs.declared.kind.Elem.{Elem}
use Rattle.value_core.specs.declared.kind.Elem.TheVariants as elem
use Rattle.value_core.specs.declared.rows.Rows.{Rows}
use Rattle.value_core.specs.declared.rows.Rows.TheVariants.{Integers, Texts}
use Rattle.value_core.specs.TextOrder.{text_cmp}

-- which sort its elements are
abbrev pub rows_sort : Rows → Elem
rows_sort (Integers m) = elem.Integer
rows_sort (Texts m) = elem.Text

-- entries, with each value as a datum
abbrev pub as_data : {X : Type 0} → (X → Datum) → List (List ℕ × X) → List (List ℕ × Datum)
as_data datum es = map (λ e. (e.0, datum e.1)) es

-- its keys, and what stands under them
abbrev pub rows_map : Rows → map.FinMap text_cmp Datum
rows_map (Integers m) = map.from_entries (as_data datum.Integer m)
rows_map (Texts m) = map.from_entries (as_data datum.Text m)
