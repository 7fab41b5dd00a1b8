-- Operations as they lie in an object.
use Rattle.std.proofs.Common.{◌≡◌, ℕ, ◌<◌, List, [], ◌∷◌, length, refl, sym, ap, ◌∙◌, subst, arith, zero, suc, get_or}
use Rattle.std.specs.Prelude.{map, Option, Some}
use Rattle.std.specs.declared.sync.Arc.{Arc}
use Rattle.std.specs.Arc.{arc_value}
use Rattle.value_core.specs.declared.datum.Datum.{Datum}
use Rattle.value_core.specs.Datum.{elem_of}
use Rattle.decl_core.specs.declared.object.Operation.{Operation}
use Rattle.decl_core.specs.declared.object.Param.{Param}
use Rattle.decl_core.specs.Form.{Body}
use Rattle.decl_core.specs.Bodies.{body_of}
use Rattle.decl_core.specs.ObjectMap.{params_of, operations_of}
use Rattle.apply_core.specs.Fits.{ArgumentsFit}
use Rattle.audit_core.specs.Operations.{body_among}

sorts_kept : (ps : List Param) → map (λ p. p.1) (params_of ps) ≡ map (λ p. p.kind) ps
sorts_kept [] = refl
sorts_kept (p ∷ ps) = ap (λ ks. p.kind ∷ ks) (sorts_kept ps)

form_of : (o : Operation) → Body
form_of o = record { params = map (λ p. p.1) (params_of o.params.items); result = o.result; statements = (body_of o).statements }

-- the body of the operation at a place
pub body_is : {Z : Type 0} (ops : List (Arc Operation Z)) (place : ℕ) (a : Arc Operation Z) → place < length ops → a ≡ get_or ops place a → body_among (operations_of ops) place ≡ body_of (arc_value a)
body_is [] place a within is = absurd (omega arith)
body_is (x ∷ ops) zero a within is =
    let e : body_among (operations_of (x ∷ ops)) zero ≡ body_of (arc_value x) = λ i. record { params = sorts_kept (arc_value x).params.items i; result = (arc_value x).result; statements = (body_of (arc_value x)).statements } in
    e ∙ ap (λ y. body_of (arc_value y)) (sym is)
body_is (x ∷ ops) (suc place) a within is = body_is ops place a (omega arith) is

-- arguments that fit the operation at a place
pub fits_at : {Z : Type 0} (ops : List (Arc Operation Z)) (place : ℕ) (a : Arc Operation Z) (args : List Datum) → place < length ops → a ≡ get_or ops place a → ArgumentsFit (arc_value a) args → map elem_of args ≡ (body_among (operations_of ops) place).params
fits_at ops place a args within is fit = fit ∙ ap (λ b. b.params) (sym (body_is ops place a within is))

pub fit_back : {Z : Type 0} (ops : List (Arc Operation Z)) (place : ℕ) (a : Arc Operation Z) (args : List Datum) → place < length ops → a ≡ get_or ops place a → map elem_of args ≡ (body_among (operations_of ops) place).params → ArgumentsFit (arc_value a) args
fit_back ops place a args within is fit = fit ∙ ap (λ b. b.params) (body_is ops place a within is)

pub fit_elsewhere : {Z : Type 0} (ops : List (Arc Operation Z)) (place other : ℕ) (a : Arc Operation Z) (args : List Datum) → place < length ops → a ≡ get_or ops place a → place ≡ other → map elem_of args ≡ (body_among (operations_of ops) other).params → ArgumentsFit (arc_value a) args
fit_elsewhere ops place other a args within is same fit = fit_back ops place a args within is (subst (λ p. map elem_of args ≡ (body_among (operations_of ops) p).params) (sym same) fit)

-- one place has a name
pub place_once : (found : Option ℕ) (a b : ℕ) → found ≡ Some a → found ≡ Some b → a ≡ b
place_once found a b p q = let e : Some a ≡ Some b = sym p ∙ q in cc
