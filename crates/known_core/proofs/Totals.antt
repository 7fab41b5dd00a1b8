-- A sum is the value of its first term with each of the others.
use Rattle.std.proofs.Common.{◌≡◌, ℕ, List, [], ◌∷◌, Ok, Err, refl, sym, ap, ◌∙◌, subst, Vec, Box, Global}
use Rattle.value_core.specs.declared.kind.Kind.{Kind}
use Rattle.decl_core.specs.declared.expr.IntegerExpr.{IntegerExpr, Sum}
use Rattle.decl_core.specs.declared.expr.Signed.{Signed}
use Rattle.decl_core.specs.declared.expr.Signed.TheVariants as signs
use Rattle.decl_core.specs.Form.{Integers}
use Rattle.decl_core.specs.View.{integers_of, total_of_list, with_term}
use Rattle.decl_core.specs.Meaning.{Seen}
use Rattle.known_core.specs.Known.{Known}
use Rattle.known_core.specs.Partly.{Partly, ◌>>>◌, integer_known}
use Rattle.decl_core.proofs.Rows.{sum_is}
use Rattle.apply_core.specs.Fitting.{IntegersFit, SignedFits, TermsFit}
use Rattle.known_core.specs.Sums.{with_signed, with_terms}

pub then_then : {A B C : Type 0} (r : Partly A) (f : A → Partly B) (g : B → Partly C) → (r >>> f >>> g) ≡ (r >>> λ x. f x >>> g)
then_then (Ok x) f g = refl
then_then (Err w) f g = refl

then_ok : {A : Type 0} (r : Partly A) → (r >>> λ x. Ok x) ≡ r
then_ok (Ok x) = refl
then_ok (Err w) = refl

term_value : (known : Known) (seen : Seen) (f : Integers) (s : Signed) → integer_known known seen (with_term f s) ≡ (integer_known known seen f >>> λ x. with_signed known seen x s)
term_value known seen f (signs.Plus e) = refl
term_value known seen f (signs.Minus e) = refl

total_value : (known : Known) (seen : Seen) (f : Integers) (terms : List Signed) → integer_known known seen (total_of_list f terms) ≡ (integer_known known seen f >>> λ x. with_terms known seen x terms)
total_value known seen f [] = sym (then_ok (integer_known known seen f))
total_value known seen f (s ∷ rest) =
    total_value known seen (with_term f s) rest ∙ ap (λ r. r >>> λ x. with_terms known seen x rest) (term_value known seen f s) ∙ then_then (integer_known known seen f) (λ x. with_signed known seen x s) (λ y. with_terms known seen y rest)

-- the value of a sum
pub sum_value : (known : Known) (seen : Seen) (e : IntegerExpr) (first : Box IntegerExpr Global) (terms : Vec Signed Global) (value : Partly ℕ) → e ≡ Sum first terms → integer_known known seen (integers_of first.value) ≡ value → integer_known known seen (integers_of e) ≡ (value >>> λ x. with_terms known seen x terms.items)
sum_value known seen e first terms value is first_is = ap (λ x. integer_known known seen (integers_of x)) is ∙ ap (integer_known known seen) (sum_is first terms) ∙ total_value known seen (integers_of first.value) terms.items ∙ ap (λ r. r >>> λ x. with_terms known seen x terms.items) first_is

term_fits : (kinds : List Kind) (f : Integers) (s : Signed) → IntegersFit kinds (with_term f s) → IntegersFit kinds f × SignedFits kinds s
term_fits kinds f (signs.Plus e) h = h
term_fits kinds f (signs.Minus e) h = h

terms_fit : (kinds : List Kind) (f : Integers) (terms : List Signed) → IntegersFit kinds (total_of_list f terms) → IntegersFit kinds f × TermsFit kinds terms
terms_fit kinds f [] h = (h, tt)
terms_fit kinds f (s ∷ rest) h =
    let others = terms_fit kinds (with_term f s) rest h in
    let one = term_fits kinds f s others.0 in
    (one.0, (one.1, others.1))

-- a sum that fits has a first term that fits, and so does each of the others
pub sum_fits : (kinds : List Kind) (e : IntegerExpr) (first : Box IntegerExpr Global) (terms : Vec Signed Global) → e ≡ Sum first terms → IntegersFit kinds (integers_of e) → IntegersFit kinds (integers_of first.value) × TermsFit kinds terms.items
sum_fits kinds e first terms is h = terms_fit kinds (integers_of first.value) terms.items (subst (IntegersFit kinds) (ap integers_of is ∙ sum_is first terms) h)
