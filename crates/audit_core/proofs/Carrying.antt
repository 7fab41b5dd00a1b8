-- The calls that waited when an epoch began.
use Rattle.std.proofs.Common.{◌≡◌, ℕ, zero, suc, ◌-◌, ◌<◌, List, [], ◌∷◌, length, get_or, sym, ap, ◌∙◌, arith, Bool, subst}
use Rattle.std.specs.Prelude.{Some, slice_get, IsTrue, ◌↔◌, Option}
use Rattle.value_core.specs.declared.datum.Datum.{Datum}
use Rattle.word_core.specs.Events.{Called}
use Rattle.audit_core.specs.declared.carried.WaitedCall.{WaitedCall}
use Rattle.audit_core.specs.Carried.{carried_calls, IsTheOne}

some_same : {X : Type 0} {x y : X} → ◌≡◌ {A = Option X} (Some x) (Some y) → x ≡ y
some_same is = cc

abbrev of : WaitedCall → Called
of x = record { number = x.number; session = x.session; operation = x.operation; arguments = x.arguments }

carried_at : (all : List WaitedCall) (k : ℕ) (x : WaitedCall) → k < length all → x ≡ get_or all k x → slice_get (carried_calls all) k ≡ Some (of x)
carried_at [] k x within is = absurd (omega (arith, within))
carried_at (y ∷ all) zero x within is = ap (λ (z : WaitedCall). Some (of z)) (sym is)
carried_at (y ∷ all) (suc k) x within is = carried_at all k x (omega (arith, within)) is

-- whether the call at a place is a call that was asked
pub the_one : (all : List WaitedCall) (number session operation : ℕ) (arguments : List Datum) (x : WaitedCall) (b : Bool) → number - 1 < length all → x ≡ get_or all (number - 1) x →
    (IsTrue b ↔ ((x.session ≡ session) × (x.operation ≡ operation) × (x.arguments ≡ arguments))) →
    (IsTrue b ↔ IsTheOne (carried_calls all) (record { number = number; session = session; operation = operation; arguments = arguments }))
the_one all number session operation arguments x b within is tells =
    let at = carried_at all (number - 1) x within is in (
      (λ yes c there. subst (λ (y : Called). (y.session ≡ session) × (y.operation ≡ operation) × (y.arguments ≡ arguments)) (some_same (sym at ∙ there)) (tells.0 yes)),
      (λ one. tells.1 (one (of x) at)),
    )
