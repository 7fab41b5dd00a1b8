-- Calls are made of operations of the object.
use Rattle.std.proofs.Common.{◌≡◌, ◌≢◌, ℕ, zero, suc, ◌-◌, ◌<◌, ◌≤◌, List, [], ◌∷◌, length, Some, refl, ap, subst, arith, map}
use Rattle.std.specs.Prelude.{slice_get, unwrap_or}
use Rattle.std.specs.declared.sync.Arc.{Arc}
use Rattle.std.specs.Arc.{arc_value}
use Rattle.decl_core.specs.declared.object.Object.{Object}
use Rattle.decl_core.specs.declared.object.Operation.{Operation}
use Rattle.decl_core.specs.PartKinds.{EachKindsOf}
use Rattle.decl_core.specs.ObjectMap.{operation_of, operations_of}
use Rattle.apply_core.specs.Fits.{ArgumentsFit}
use Rattle.value_core.specs.declared.kind.Kind.{Kind}
use Rattle.page_core.specs.ObjectCalls.{AcceptedCall}
use Rattle.board_core.specs.Board.{bodies, call_at, most_sessions}
use Rattle.board_core.specs.Chain.{AreOf}
use Rattle.board_core.specs.Sound.{IsMadeOf, IsFirstNamed, kinds_of}

-- at a place below their number there is an operation
body_there : {Z : Type 0} (xs : List (Arc Operation Z)) (k : ℕ) → k < length xs → (operation : Operation) × (slice_get (map (λ a. arc_value a) xs) k ≡ Some operation)
body_there [] k within = absurd (omega arith)
body_there (x ∷ xs) zero within = (arc_value x, refl)
body_there (x ∷ xs) (suc k) within = body_there xs k (omega arith)

pub some_body : (o : Object) (k : ℕ) → k < length o.operations.items → (operation : Operation) × (slice_get (bodies o) k ≡ Some operation)
some_body o k within = body_there o.operations.items k within

form_there : {Z : Type 0} (xs : List (Arc Operation Z)) (k : ℕ) (operation : Operation) → slice_get (map (λ a. arc_value a) xs) k ≡ Some operation → slice_get (operations_of xs) k ≡ Some (operation_of operation)
form_there [] k operation is = absurd cc
form_there (x ∷ xs) zero operation is = ap (λ o. Some (operation_of (unwrap_or o operation))) is
form_there (x ∷ xs) (suc k) operation is = form_there xs k operation is

parts_there : {Z : Type 0} (kinds : List Kind) (xs : List (Arc Operation Z)) (k : ℕ) (operation : Operation) → EachKindsOf kinds (map (λ (o : Operation). o.kinds.items) (map (λ a. arc_value a) xs)) → slice_get (map (λ a. arc_value a) xs) k ≡ Some operation → AreOf kinds operation
parts_there kinds [] k operation all is = absurd cc
parts_there kinds (x ∷ xs) zero operation all is = subst (AreOf kinds) (ap (λ o. unwrap_or o (arc_value x)) is) (λ p kind named. all.0 p kind named.held)
parts_there kinds (x ∷ xs) (suc k) operation all is = parts_there kinds xs k operation all.1 is

pub made_of : (o : Object) (call : AcceptedCall) → (1 ≤ call.session) × (call.session ≤ most_sessions) → slice_get (bodies o) call.op ≡ Some call.operation → IsFirstNamed o call.op call.operation → ArgumentsFit call.operation call.arguments → IsMadeOf o call
made_of o call there is first fits = record {
  session = there;
  operation = form_there o.operations.items call.op call.operation is;
  parts = parts_there (kinds_of o) o.operations.items call.op call.operation o.of_parts is;
  first = first;
  fits = fits;
}

-- the operation at a place
pub body_at : {Z : Type 0} (xs : List (Arc Operation Z)) (k : ℕ) (a : Arc Operation Z) → slice_get xs k ≡ Some a → slice_get (map (λ x. arc_value x) xs) k ≡ Some (arc_value a)
body_at [] k a is = absurd cc
body_at (x ∷ xs) zero a is = ap (λ o. Some (arc_value (unwrap_or o a))) is
body_at (x ∷ xs) (suc k) a is = body_at xs k a is

-- what a shared value at a place is
pub arc_at : {X Z : Type 0} (xs : List (Arc X Z)) (k : ℕ) (a : Arc X Z) → slice_get xs k ≡ Some a → slice_get (map (λ x. arc_value x) xs) k ≡ Some (arc_value a)
arc_at [] k a is = absurd cc
arc_at (x ∷ xs) zero a is = ap (λ o. Some (arc_value (unwrap_or o a))) is
arc_at (x ∷ xs) (suc k) a is = arc_at xs k a is

-- the call of a number stands one place before it
pub call_before : (calls : List AcceptedCall) (n : ℕ) (call : AcceptedCall) → n ≢ 0 → slice_get calls (n - 1) ≡ Some call → call_at calls n ≡ Some call
call_before calls zero call some is = absurd (some refl)
call_before calls (suc k) call some is = subst (λ i. slice_get calls i ≡ Some call) (before k) is
  where
    before : (k : ℕ) → suc k - 1 ≡ k
    before k = omega arith
