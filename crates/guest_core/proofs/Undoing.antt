-- What is called for a session that is gone.
use Rattle.std.proofs.Common.{◌≡◌, ℕ, ◌<◌, ◌≤◌, List, [], length, Option, Some, None, sym, ap, subst, ◌∙◌, arith, get_or, Global}
use Rattle.std.specs.Prelude.{option_map, slice_get}
use Rattle.std.specs.declared.sync.Arc.{Arc}
use Rattle.std.specs.Arc.{arc_value}
use Rattle.std.proofs.lemmas.List.{length-map}
use Rattle.std.proofs.lemmas.Option.{slice_get-get_or, slice_get-map, slice_get_within}
use Rattle.value_core.specs.declared.datum.Datum.{Datum}
use Rattle.decl_core.specs.declared.object.Object.{Object}
use Rattle.decl_core.specs.declared.object.Operation.{Operation}
use Rattle.decl_core.specs.ObjectForm.{ObjectForm}
use Rattle.decl_core.specs.ObjectMap.{object_of, operation_of, operations_of}
use Rattle.decl_core.specs.declared.hold.Hold.{Hold}
use Rattle.decl_core.specs.HoldForm.{HoldForm}
use Rattle.decl_core.specs.HoldMap.{hold_of, holds_of}
use Rattle.guest_core.specs.Held.{HeldCall}
use Rattle.guest_core.specs.Undo.{given_to, IsFirstUndo, IsUndoOf}

-- what a look finds there
there_is : {X : Type 0} (xs : List X) (k : ℕ) (x : X) → k < length xs → x ≡ get_or xs k x → slice_get xs k ≡ Some x
there_is xs k x within is = slice_get-get_or xs k x within ∙ ap Some (sym is)

pub first_is : (holds : List Hold) (place op : ℕ) (hold : Hold) (ops : List ℕ) → place < length holds → hold ≡ get_or holds place hold → ops ≡ hold.until.items → slice_get ops 0 ≡ Some op → IsFirstUndo (holds_of holds) place op
first_is holds place op hold ops within is same first = record {
  rule = hold_of hold;
  held = slice_get-map hold_of holds place ∙ ap (option_map hold_of) (there_is holds place hold within is);
  first = subst (λ xs. slice_get xs 0 ≡ Some op) same first;
}

pub undo_is : (o : Object) (holds : List HoldForm) (h : HeldCall) (rule op : ℕ) (values lent given : List Datum) (ops : List (Arc Operation Global)) (a : Arc Operation Global) (b : Operation) →
    rule ≡ h.rule → values ≡ h.values → IsFirstUndo holds rule op → ops ≡ o.operations.items → op < length ops → a ≡ get_or ops op a → b ≡ arc_value a → lent ≡ values → given ≡ given_to (operation_of b) lent →
    IsUndoOf (object_of o) holds h op given
undo_is o holds h rule op values lent given ops a b same_rule same_values first same within is b_is lent_is given_is = record {
  ends = subst (λ r. IsFirstUndo holds r op) same_rule first;
  form = operation_of (arc_value a);
  declared = subst (λ xs. slice_get (operations_of xs) op ≡ Some (operation_of (arc_value a))) same
      (slice_get-map (λ x. operation_of (arc_value x)) ops op ∙ ap (option_map (λ x. operation_of (arc_value x))) (there_is ops op a within is));
  given = given_is ∙ ap (λ x. given_to (operation_of x) lent) b_is ∙ ap (given_to (operation_of (arc_value a))) (lent_is ∙ same_values);
}

-- there is no such hold
pub no_hold : (holds : List Hold) (place : ℕ) → length holds ≤ place → (op : ℕ) → IsFirstUndo (holds_of holds) place op → ⊥
no_hold holds place more op is = absurd (omega (arith, more, slice_get_within (holds_of holds) place is.rule is.held, length-map holds hold_of))

same_some : {X : Type 0} (x y : X) → Some x ≡ Some y → x ≡ y
same_some x y is = cc

-- nothing ends it
pub no_first : (holds : List Hold) (place : ℕ) (hold : Hold) (ops : List ℕ) → place < length holds → hold ≡ get_or holds place hold → ops ≡ hold.until.items → ops ≡ [] → (op : ℕ) → IsFirstUndo (holds_of holds) place op → ⊥
no_first holds place hold ops within is same none op undo =
    let found : slice_get (holds_of holds) place ≡ Some (hold_of hold) = slice_get-map hold_of holds place ∙ ap (option_map hold_of) (there_is holds place hold within is) in
    let rule : undo.rule ≡ hold_of hold = same_some undo.rule (hold_of hold) (sym undo.held ∙ found) in
    let first : slice_get [] 0 ≡ Some op = ap (λ xs. slice_get xs 0) (sym (ap (λ (r : HoldForm). r.until) rule ∙ sym same ∙ none)) ∙ undo.first in
    absurd (let is_none : None ≡ Some op = first in cc)

pub no_undo : (o : ObjectForm) (holds : List HoldForm) (h : HeldCall) (rule : ℕ) → rule ≡ h.rule → ((op : ℕ) → IsFirstUndo holds rule op → ⊥) → (op : ℕ) (arguments : List Datum) → IsUndoOf o holds h op arguments → ⊥
no_undo o holds h rule same none op arguments is = none op (subst (λ r. IsFirstUndo holds r op) (sym same) is.ends)

-- one hold has one first undo
one_undo : (holds : List HoldForm) (place a b : ℕ) → IsFirstUndo holds place a → IsFirstUndo holds place b → a ≡ b
one_undo holds place a b x y =
    let rule : x.rule ≡ y.rule = same_some x.rule y.rule (sym x.held ∙ y.held) in
    same_some a b (sym x.first ∙ ap (λ (r : HoldForm). slice_get r.until 0) rule ∙ y.first)

pub no_operation : (o : Object) (holds : List HoldForm) (h : HeldCall) (rule op : ℕ) (ops : List (Arc Operation Global)) → rule ≡ h.rule → IsFirstUndo holds rule op → ops ≡ o.operations.items → length ops ≤ op
    → (other : ℕ) (arguments : List Datum) → IsUndoOf (object_of o) holds h other arguments → ⊥
no_operation o holds h rule op ops same first is more other arguments undo =
    let ends : IsFirstUndo holds rule other = subst (λ r. IsFirstUndo holds r other) (sym same) undo.ends in
    let equal : op ≡ other = one_undo holds rule op other first ends in
    absurd (omega (arith, equal, more, ap length is, slice_get_within (operations_of o.operations.items) other undo.form undo.declared, length-map o.operations.items (λ x. operation_of (arc_value x))))
