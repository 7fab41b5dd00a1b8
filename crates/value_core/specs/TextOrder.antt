-- Texts by their bytes, a prefix before the longer text.
use Rattle.std.specs.Prelude.{ℕ, Bool, List, ◌==◌}
use Rattle.std.specs.Ordering.{nat_cmp}
use Rattle.std.specs.declared.cmp.Ordering.{Ordering}
use Rattle.std.specs.Cmp.Lexicographic.{slice_cmp, pointwise}

-- the first byte that differs decides, then the length
abbrev pub text_cmp : List ℕ → List ℕ → Ordering
text_cmp = slice_cmp nat_cmp

-- whether two texts have the same bytes
abbrev pub text_eq : List ℕ → List ℕ → Bool
text_eq = pointwise ◌==◌
