-- The terms of a sum: the parts that they name, besides those so far.
use Rattle.std.specs.Prelude.{ℕ, List, [], ◌∷◌}
use Rattle.decl_core.specs.declared.expr.Signed.{Signed}
use Rattle.decl_core.specs.declared.expr.Signed.TheVariants as signs
use Rattle.decl_core.specs.View.{integers_of}
use Rattle.decl_core.specs.Footprint.{named_in_integers}

abbrev pub named_in_signed : Signed → ℕ → ℕ
named_in_signed (signs.Plus e) so_far = named_in_integers (integers_of e) so_far
named_in_signed (signs.Minus e) so_far = named_in_integers (integers_of e) so_far

abbrev pub named_in_terms : List Signed → ℕ → ℕ
named_in_terms [] so_far = so_far
named_in_terms (s ∷ rest) so_far = named_in_terms rest (named_in_signed s so_far)
