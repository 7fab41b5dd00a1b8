-- The forms of sums that are seen from their last terms.
use Rattle.std.specs.Prelude.{Bool, true, false}
use Rattle.decl_core.specs.declared.sum_rows.SumRow.{SumRow}
use Rattle.decl_core.specs.declared.sum_rows.Single.{Single}
use Rattle.decl_core.specs.declared.sum_rows.Single.TheVariants as singles
use Rattle.decl_core.specs.declared.sum_rows.Outer.{Outer}
use Rattle.decl_core.specs.declared.sum_rows.Outer.TheVariants as outers
use Rattle.decl_core.specs.Form.{Integers, number, integer_from, count, add, subtract}
use Rattle.decl_core.specs.View.{from_of, integers_of, total_of_list}

abbrev pub row_form : SumRow → Integers
row_form r = total_of_list (integers_of r.first.now) r.terms.now

abbrev pub single_form : Single → Integers
single_form (singles.Number n) = number n
single_form (singles.From s) = integer_from (from_of s.now)
single_form (singles.Count p) = count p

-- a term is added, or subtracted
abbrev pub with_sign : Bool → Integers → Integers → Integers
with_sign true f g = add f g
with_sign false f g = subtract f g

abbrev pub outer_form : Outer → Integers
outer_form (outers.Single s) = single_form s
outer_form (outers.Sum before is_added term) = with_sign is_added (row_form before) (integers_of term.now)
