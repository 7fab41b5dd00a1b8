-- The rows of a tree, as lists.
use Rattle.std.proofs.Common.{◌≡◌, ℕ, List, [], ◌∷◌, refl, ap, ◌∙◌, subst, Vec, Box, Global}
use mathlib.Core.Former.{Count}
use Rattle.decl_core.specs.declared.expr.IntegerExpr.{IntegerExpr, Sum, Row_of-Signed, end_of-Signed, more_of-Signed, items-the_row-Signed, items_hidden-the_row-Signed-0}
use Rattle.decl_core.specs.declared.expr.IntegerExpr.TheVariants as integers
use Rattle.decl_core.specs.declared.stmt.Stmt.{Stmt, Block, Row_of-Stmt, end_of-Stmt, more_of-Stmt, items-the_row-Stmt, items_hidden-the_row-Stmt-0}
use Rattle.decl_core.specs.declared.stmt.Stmt.TheVariants as stmts
use Rattle.decl_core.specs.declared.expr.Signed.{Signed}
use Rattle.decl_core.specs.declared.expr.Signed.TheVariants as signs
use Rattle.decl_core.specs.Footprint.{named_in_integers}
use Rattle.decl_core.specs.Terms.{named_in_signed, named_in_terms}
use Rattle.decl_core.specs.Form.{Integers, block, first_and}
use Rattle.decl_core.specs.View.{integers_of, total_of, total_of_list, with_term, statement_of, statements_of, all_of}

total_rows : (n : _) (row : Row_of-Signed n) (f : Integers) → total_of f row ≡ total_of_list f (items-the_row-Signed n row)
total_rows n end_of-Signed f = refl
total_rows n (more_of-Signed s rest) f = total_rows _ rest (with_term f s)

statement_rows : (n : _) (row : Row_of-Stmt n) → statements_of row ≡ all_of (items-the_row-Stmt n row)
statement_rows n end_of-Stmt = refl
statement_rows n (more_of-Stmt s rest) = ap (first_and (statement_of s)) (statement_rows _ rest)

abbrev row_of : Stmt → (n : Count) × Row_of-Stmt n
row_of (stmts.Block' _ row) = (_, row)
row_of _ = (_, end_of-Stmt)

-- a block is the list of its statements
pub block_is : (all : Vec Stmt Global) → statement_of (Block all) ≡ block (all_of all.items)
block_is all =
    let row = row_of (Block all) in
    let same = items_hidden-the_row-Stmt-0 all in
    subst (λ items. statement_of (Block all) ≡ block (all_of items)) same (ap block (statement_rows row.0 row.1))

abbrev terms_of : IntegerExpr → (n : Count) × Row_of-Signed n
terms_of (integers.Sum' p e _ row) = (_, row)
terms_of _ = (_, end_of-Signed)

-- a sum is its first term and the list of the others
pub sum_is : (e : Box IntegerExpr Global) (all : Vec Signed Global) → integers_of (Sum e all) ≡ total_of_list (integers_of e.value) all.items
sum_is e all =
    let row = terms_of (Sum e all) in
    let same = items_hidden-the_row-Signed-0 all in
    subst (λ items. integers_of (Sum e all) ≡ total_of_list (integers_of e.value) items) same (total_rows row.0 row.1 (integers_of e.value))

named_term : (f : Integers) (s : Signed) (so_far : ℕ) → named_in_integers (with_term f s) so_far ≡ named_in_signed s (named_in_integers f so_far)
named_term f (signs.Plus e) so_far = refl
named_term f (signs.Minus e) so_far = refl

-- the parts that a sum names are those of its first term and those of the others
pub named_sum : (terms : List Signed) (f : Integers) (so_far : ℕ) → named_in_integers (total_of_list f terms) so_far ≡ named_in_terms terms (named_in_integers f so_far)
named_sum [] f so_far = refl
named_sum (s ∷ rest) f so_far = named_sum rest (with_term f s) so_far ∙ ap (named_in_terms rest) (named_term f s so_far)
