-- The operation of a call is found by its name.
use Rattle.std.proofs.Common.{◌≡◌, ℕ, zero, suc, Bool, true, false, cond, Some, List, [], ◌∷◌, refl, ap, ◌∙◌, map}
use Rattle.std.specs.Prelude.{Decides, slice_get, slice_index_or, unwrap_or, take}
use Rattle.std.proofs.lemmas.Slice.Eq.{bytes_eq-Decides}
use Rattle.std.specs.declared.sync.Arc.{Arc}
use Rattle.std.specs.Arc.{arc_value}
use Rattle.path_tree.specs.Known.{place_of, next}
use Rattle.decl_core.specs.declared.object.Operation.{Operation}
use Rattle.decl_core.specs.ObjectForm.{OperationForm}
use Rattle.decl_core.specs.ObjectMap.{operation_of, operations_of}
use Rattle.page_core.specs.Lists.{Every}
use Rattle.audit_core.specs.Operations.{operation_names}

decided_false : (b : Bool) (P : Type 0) → Decides b P → (P → ⊥) → b ≡ false
decided_false true P d n = absurd (n (d.0 refl))
decided_false false P d n = refl

-- the name of the operation at a place
pub name_there : (fs : List OperationForm) (k : ℕ) (f : OperationForm) → slice_get fs k ≡ Some f → slice_index_or (map (λ g. g.name) fs) k [] ≡ f.name
name_there [] k f is = absurd cc
name_there (x ∷ fs) zero f is = ap (λ o. (unwrap_or o x).name) is
name_there (x ∷ fs) (suc k) f is = name_there fs k f is

-- the first operation of a name is found at its place
pub found_there : {Z : Type 0} (xs : List (Arc Operation Z)) (k : ℕ) (f : OperationForm) (name : List ℕ) → slice_get (operations_of xs) k ≡ Some f → f.name ≡ name → Every (λ (x : Operation). x.name ≡ name → ⊥) (take k (map (λ a. arc_value a) xs)) → place_of (operation_names (operations_of xs)) name ≡ Some k
found_there [] k f name is same first = absurd cc
found_there (x ∷ xs) zero f name is same first =
    let own : (operation_of (arc_value x)).name ≡ name = ap (λ o. (unwrap_or o (operation_of (arc_value x))).name) is ∙ same in
    ap (λ b. cond b (Some 0) (next (place_of (operation_names (operations_of xs)) name))) ((bytes_eq-Decides (operation_of (arc_value x)).name name).1 own)
found_there (x ∷ xs) (suc k) f name is same first =
    ap (λ b. cond b (Some 0) (next (place_of (operation_names (operations_of xs)) name))) (decided_false _ _ (bytes_eq-Decides (operation_of (arc_value x)).name name) first.0)
    ∙ ap next (found_there xs k f name is same first.1)
