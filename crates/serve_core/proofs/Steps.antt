-- One step of a row that is taken apart.
use Rattle.std.proofs.Common.{◌≡◌, ◌+◌, ◌∷◌, Option, Some, None, subst}
use Rattle.std.specs.declared.vec.IntoIter.{IntoIter}
use Rattle.std.specs.Vec.Iter.{into_iter_items, into_iter_len, into_iter_steps}

-- it gave an item
pub step_some : {X Z : Type 0} (s t : IntoIter X Z) (given : Option X) (x : X) → given ≡ Some x → into_iter_steps s given t → (into_iter_items s ≡ x ∷ into_iter_items t) × (into_iter_len t + 1 ≡ into_iter_len s)
step_some {X = X} s t given x is steps = subst (λ (g : Option X). into_iter_steps s g t) is steps

-- it gave none
pub step_none : {X Z : Type 0} (s t : IntoIter X Z) (given : Option X) → given ≡ None → into_iter_steps s given t → into_iter_len s ≡ 0
step_none {X = X} s t given is steps = (subst (λ (g : Option X). into_iter_steps s g t) is steps).0
