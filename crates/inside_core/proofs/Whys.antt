-- Why calls wait.
use Rattle.std.proofs.Common.{◌≡◌, ℕ, List, length, sym, subst}
use Rattle.path_tree.specs.Path.{Path}
use Rattle.path_tree.specs.Trace.{Event}
use Rattle.path_count.specs.State.{State}
use Rattle.path_count.specs.Stands.{StandsFor}
use Rattle.decl_core.specs.ObjectMap.{object_of}
use Rattle.live_core.specs.Hall.{trace}
use Rattle.live_core.specs.Scene.{Scene}
use Rattle.stuck_core.specs.Lacks.{Why}
use Rattle.stuck_core.specs.Tells.{Tells}
use Rattle.client_core.specs.ToldInside.{AreWhys}

-- what counters tell of whatever they stand for is told of all that happened
pub are_whys : (object : Scene) (op : ℕ) (counters : State) (paths : List Path) (whys : List Why) → counters ≡ object.hall.counters →
    paths ≡ (object_of object.hall.object).paths → ((n : ℕ) (t : List Event) → StandsFor counters n paths t → Tells paths op t whys) → AreWhys object op whys
are_whys object op counters paths whys c p told t held =
    let n = length (object_of object.hall.object).operations in
    subst (λ (ps : List Path). Tells ps op (trace t) whys) p
    (told n (trace t) (subst (λ (ps : List Path). StandsFor counters n ps (trace t)) (sym p)
    (subst (λ (s : State). StandsFor s n (object_of object.hall.object).paths (trace t)) (sym c) held.kept.stands)))
