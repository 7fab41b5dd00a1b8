-- The elements of an array, integers and texts apart.
use Rattle.std.specs.Prelude.{List, map}
use Rattle.value_core.specs.declared.datum.Datum.{Datum}
use Rattle.value_core.specs.declared.datum.Datum.TheVariants as datum
use Rattle.value_core.specs.declared.kind.Elem.{Elem}
use Rattle.value_core.specs.declared.kind.Elem.TheVariants as elem
use Rattle.value_core.specs.declared.cells.Cells.{Cells}
use Rattle.value_core.specs.declared.cells.Cells.TheVariants.{Integers, Texts}

-- which sort its elements are
abbrev pub cells_sort : Cells → Elem
cells_sort (Integers v) = elem.Integer
cells_sort (Texts v) = elem.Text

-- its elements
abbrev pub cells_data : Cells → List Datum
cells_data (Integers v) = map datum.Integer v.items
cells_data (Texts v) = map datum.Text v.items
