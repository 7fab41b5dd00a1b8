-- Objects that are looked through for a name, one after the other.
use Rattle.std.proofs.Common.{◌≡◌, ◌≢◌, ℕ, List, [], ◌∷◌, ◌++◌, refl, sym, ap, subst, ◌∙◌, append_assoc, arith}
use Rattle.std.specs.Prelude.{All, Contains}
use Rattle.std.proofs.lemmas.List.{append-nil, map-append}
use Rattle.std.proofs.lemmas.List.Elements.{All-nil, All-push, Contains-append_right}
use Rattle.decl_core.specs.declared.object.Object.{Object}
use Rattle.decl_core.specs.ObjectForm.{ObjectForm}
use Rattle.decl_core.specs.ObjectMap.{object_of, objects_of}

-- Of all objects those before the rest have other names.
pub record Looked (all rest : List Object) (name : List ℕ) : Type 0 where
  pub done : List Object
  pub split : all ≡ done ++ rest
  pub others : All (λ (o : ObjectForm). o.name ≢ name) (objects_of done)

-- none was looked at so far
pub looked_none : (all rest : List Object) (name : List ℕ) → rest ≡ all → Looked all rest name
looked_none all rest name is = record {
  done = [];
  split = sym is;
  others = All-nil (λ (o : ObjectForm). o.name ≢ name);
}

-- one object more, of another name
pub looked_more : (all rest left : List Object) (o : Object) (name : List ℕ) → Looked all rest name → rest ≡ o ∷ left → o.name ≢ name → Looked all left name
looked_more all rest left o name before is other = record {
  done = before.done ++ o ∷ [];
  split = before.split ∙ ap (λ r. before.done ++ r) is ∙ sym (append_assoc before.done (o ∷ []) left);
  others = subst (All (λ (p : ObjectForm). p.name ≢ name)) (sym (map-append object_of before.done (o ∷ [])))
      (All-push (λ (p : ObjectForm). p.name ≢ name) (objects_of before.done) (object_of o) before.others other);
}

-- all objects have other names
pub looked_all : (all rest : List Object) (name : List ℕ) → Looked all rest name → rest ≡ [] → All (λ (o : ObjectForm). o.name ≢ name) (objects_of all)
looked_all all rest name looked end =
    let same : all ≡ looked.done = looked.split ∙ ap (λ r. looked.done ++ r) end ∙ append-nil looked.done in
    subst (λ r. All (λ (o : ObjectForm). o.name ≢ name) (objects_of r)) (sym same) looked.others

-- the next object is one of them
pub looked_found : (all rest left : List Object) (o : Object) (name : List ℕ) → Looked all rest name → rest ≡ o ∷ left → Contains (objects_of all) (object_of o)
looked_found all rest left o name looked is =
    let split : all ≡ looked.done ++ o ∷ left = looked.split ∙ ap (λ r. looked.done ++ r) is in
    let mapped : objects_of (looked.done ++ o ∷ left) ≡ objects_of looked.done ++ object_of o ∷ objects_of left = map-append object_of looked.done (o ∷ left) in
    let first : Contains (object_of o ∷ objects_of left) (object_of o) = (0, omega arith, refl) in
    subst (λ r. Contains (objects_of r) (object_of o)) (sym split) (subst (λ r. Contains r (object_of o)) (sym mapped) (Contains-append_right (objects_of looked.done) (object_of o ∷ objects_of left) (object_of o) first))
