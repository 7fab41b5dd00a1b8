-- Whether an operation stands in holds, hold by hold; and what is known of the operations of an object by their places.
use Rattle.std.proofs.Common.{◌≡◌, ℕ, Bool, true, false, ◌||◌, List, [], ◌∷◌, ◌++◌, Option, Some, None, map, refl, ap, ◌∙◌}
use Rattle.std.specs.Prelude.{◌==◌, option_map, slice_get}
use Rattle.std.specs.List.{list_any}
use Rattle.std.specs.declared.sync.Arc.{Arc}
use Rattle.std.specs.Arc.{arc_value}
use Rattle.std.proofs.lemmas.Option.{slice_get-map}
use Rattle.std.proofs.lemmas.List.Folds.{list_any-append}
use Rattle.decl_core.specs.declared.object.Operation.{Operation}
use Rattle.decl_core.specs.declared.object.Param.{Param}
use Rattle.decl_core.specs.HoldForm.{signatures_of, signature_of}
use Rattle.decl_core.specs.ObjectMap.{operation_of, operations_of, params_of}
use Rattle.decl_core.specs.HoldForm.{HoldForm, Signature, signature, is_one_of, named_in, ending_in}

or_assoc : (x y z : Bool) → (x || (y || z)) ≡ (x || y || z)
or_assoc true y z = refl
or_assoc false y z = refl

pub named_step : (h : HoldForm) (holds : List HoldForm) (op : ℕ) → is_one_of (named_in (h ∷ holds)) op ≡ (h.op == op || is_one_of h.until op || is_one_of (named_in holds) op)
named_step h holds op = ap (λ b. h.op == op || b) (list_any-append (λ o. o == op) h.until (named_in holds)) ∙ or_assoc (h.op == op) (is_one_of h.until op) (is_one_of (named_in holds) op)

pub ending_step : (h : HoldForm) (holds : List HoldForm) (op : ℕ) → is_one_of (ending_in (h ∷ holds)) op ≡ (is_one_of h.until op || is_one_of (ending_in holds) op)
ending_step h holds op = list_any-append (λ o. o == op) h.until (ending_in holds)

-- what an operation of the code takes and replies
abbrev pub signature_by : Operation → Signature
signature_by o = signature (map (λ p. p.kind) o.params.items) o.result

sorts_of_params : (params : List Param) → map (λ p. p.1) (params_of params) ≡ map (λ p. p.kind) params
sorts_of_params [] = refl
sorts_of_params (p ∷ params) = ap (λ xs. p.kind ∷ xs) (sorts_of_params params)

pub same_signature : (o : Operation) → signature_of (operation_of o) ≡ signature_by o
same_signature o = ap (λ takes. signature takes o.result) (sorts_of_params o.params.items)

pub same_signatures : {Z : Type 0} (operations : List (Arc Operation Z)) → signatures_of (operations_of operations) ≡ map signature_by (map arc_value operations)
same_signatures [] = refl
same_signatures (o ∷ operations) = λ i. same_signature (arc_value o) i ∷ same_signatures operations i

-- the signature of the operation at a place
pub signature_at : {Z : Type 0} (operations : List (Arc Operation Z)) (k : ℕ) → slice_get (signatures_of (operations_of operations)) k ≡ option_map signature_by (slice_get (map arc_value operations) k)
signature_at operations k = ap (λ xs. slice_get xs k) (same_signatures operations) ∙ slice_get-map signature_by (map arc_value operations) k
