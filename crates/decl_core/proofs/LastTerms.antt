-- Sums, from their last terms.
use Rattle.std.proofs.Common.{◌≡◌, List, [], ◌∷◌, ◌++◌, length, Bool, true, false, refl, sym, ap, ◌∙◌, arith}
use Rattle.std.specs.Borrow.{Bor}
use Rattle.decl_core.specs.declared.expr.IntegerExpr.{IntegerExpr}
use Rattle.decl_core.specs.declared.expr.Signed.{Signed}
use Rattle.decl_core.specs.declared.sum_rows.SumRow.{SumRow}
use Rattle.decl_core.specs.declared.sum_rows.Single.{Single}
use Rattle.decl_core.specs.declared.sum_rows.Single.TheVariants as singles
use Rattle.decl_core.specs.declared.sum_rows.Outer.{Outer}
use Rattle.decl_core.specs.declared.sum_rows.Outer.TheVariants as outers
use Rattle.decl_core.specs.SumRows.{row_form, single_form, with_sign, outer_form}
use Rattle.decl_core.specs.Form.{Integers}
use Rattle.decl_core.specs.View.{integers_of, total_of_list, with_term}

-- the last term of a row is added to what stands before it, or subtracted
pub total_last : (f : Integers) (before : List Signed) (s : Signed) → total_of_list f (before ++ s ∷ []) ≡ with_term (total_of_list f before) s
total_last f [] s = refl
total_last f (x ∷ before) s = total_last (with_term f x) before s

pub none_there : {A : Type 0} (xs : List A) → length xs ≡ 0 → xs ≡ []
none_there [] h = refl
none_there (x ∷ xs) h = absurd (omega (arith, h))

-- no sum is of the form of an integer that is none
no_single : (plus : Bool) (f g : Integers) (s : Single) → with_sign plus f g ≡ single_form s → ⊥
no_single true f g (singles.Number n) h = absurd cc
no_single true f g (singles.From s) h = absurd cc
no_single true f g (singles.Count p) h = absurd cc
no_single false f g (singles.Number n) h = absurd cc
no_single false f g (singles.From s) h = absurd cc
no_single false f g (singles.Count p) h = absurd cc

pub sum_apart : (x y : Outer) (before : SumRow) (plus : Bool) (term : Bor IntegerExpr) (s : Single) → x ≡ outers.Sum before plus term → y ≡ outers.Single s → outer_form x ≡ outer_form y → ⊥
sum_apart x y before plus term s is other h = no_single plus (row_form before) (integers_of term.now) s (sym (ap outer_form is) ∙ h ∙ ap outer_form other)
