-- Operations by their places.
use Rattle.std.proofs.Common.{◌≡◌, ℕ, zero, suc, ◌<◌, List, [], ◌∷◌, length, get_or, map, ap, arith}
use Rattle.std.specs.Prelude.{slice_index_or}
use Rattle.std.specs.declared.sync.Arc.{Arc}
use Rattle.std.specs.Arc.{arc_value}
use Rattle.decl_core.specs.declared.object.Operation.{Operation}
use Rattle.decl_core.specs.ObjectMap.{operations_of}

pub name_at : {Z : Type 0} (operations : List (Arc Operation Z)) (place : ℕ) (a : Arc Operation Z) → place < length operations → a ≡ get_or operations place a
    → (arc_value a).name ≡ slice_index_or (map (λ f. f.name) (operations_of operations)) place []
name_at [] place a within is = absurd (omega arith)
name_at {Z} (x ∷ operations) zero a within is = ap (λ (y : Arc Operation Z). (arc_value y).name) is
name_at (x ∷ operations) (suc place) a within is = name_at operations place a (omega arith) is
