-- What a format has room for, a value can have.
use Rattle.std.proofs.Common.{ℕ, ◌≤◌, List, arith}
use Rattle.std.specs.Prelude.{All}
use Rattle.std.specs.FinMap as map
use Rattle.value_core.specs.declared.datum.Datum.{Datum}
use Rattle.value_core.specs.declared.datum.Datum.TheVariants as datum
use Rattle.value_core.specs.declared.kind.Elem.{Elem}
use Rattle.value_core.specs.declared.format.Format.{Format}
use Rattle.value_core.specs.declared.format.Format.TheVariants.{First, Second}
use Rattle.value_core.specs.Plain.{IsText}
use Rattle.value_core.specs.Format.{most_text, IsTextIn}
use Rattle.value_core.specs.Datum.{IsDatumIn, IsDatum, IsElementIn, IsElement}
use Rattle.value_core.specs.Contents.{Contents, array, queue, table, IsRowIn, IsRow, IsContentsIn, IsContents}

pub most_fits : (f : Format) → most_text f ≤ 1000
most_fits First = omega arith
most_fits Second = omega arith

pub wide_text : (f : Format) (t : List ℕ) → IsTextIn f t → IsText t
wide_text f t is = record { few = omega (arith, is.few, most_fits f); plain = is.plain }

pub wide_datum : (f : Format) (d : Datum) → IsDatumIn f d → IsDatum d
wide_datum f (datum.Integer n) is = is
wide_datum f (datum.Text t) is = wide_text f t is

wide_element : (f : Format) (e : Elem) (d : Datum) → IsElementIn f e d → IsElement e d
wide_element f e d is = record { sort = is.sort; datum = wide_datum f d is.datum }

wide_row : (f : Format) (e : Elem) (row : List ℕ × Datum) → IsRowIn f e row → IsRow e row
wide_row f e row is = record { key = wide_text f row.0 is.key; element = wide_element f e row.1 is.element }

each_wide : {X : Type 0} (P Q : X → Type 0) → ((x : X) → P x → Q x) → (xs : List X) → All P xs → All Q xs
each_wide P Q one xs each = λ k d inside. one _ (each k d inside)

pub wide : (f : Format) (value : Contents) → IsContentsIn f value → IsContents value
wide f (array e xs) is = record { each = each_wide (IsElementIn f e) (IsElement e) (wide_element f e) xs is.each; few = is.few }
wide f (queue e xs) is = record { each = each_wide (IsElementIn f e) (IsElement e) (wide_element f e) xs is.each; few = is.few }
wide f (table e m) is = record { each = each_wide (IsRowIn f e) (IsRow e) (wide_row f e) (map.entries m) is.each; few = is.few }
