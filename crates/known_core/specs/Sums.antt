-- What an expression sees, and the value of a sum term by term.
use Rattle.std.specs.Prelude.{ℕ, List, [], ◌∷◌, Ok}
use Rattle.value_core.specs.declared.datum.Datum.{Datum}
use Rattle.value_core.specs.Contents.{Contents}
use Rattle.value_core.specs.Meaning.{sum_of, difference_of}
use Rattle.decl_core.specs.declared.expr.Signed.{Signed}
use Rattle.decl_core.specs.declared.expr.Signed.TheVariants as signs
use Rattle.decl_core.specs.View.{integers_of}
use Rattle.decl_core.specs.Meaning.{Seen}
use Rattle.known_core.specs.Known.{Known}
use Rattle.known_core.specs.Partly.{Partly, ◌>>>◌, worded, integer_known}

abbrev pub seeing : List Datum → List Contents → Seen
seeing args parts = record { arguments = args; parts = parts }

-- a value with a term added or subtracted, and with each of some terms
abbrev pub with_signed : Known → Seen → ℕ → Signed → Partly ℕ
with_signed known seen x (signs.Plus e) = integer_known known seen (integers_of e) >>> λ y. worded (sum_of x y)
with_signed known seen x (signs.Minus e) = integer_known known seen (integers_of e) >>> λ y. worded (difference_of x y)

abbrev pub with_terms : Known → Seen → ℕ → List Signed → Partly ℕ
with_terms known seen x [] = Ok x
with_terms known seen x (s ∷ rest) = with_signed known seen x s >>> λ y. with_terms known seen y rest
