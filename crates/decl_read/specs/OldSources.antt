-- Sources of the grammar without holds.
use Rattle.std.specs.Prelude.{◌≡◌, ◌↔◌, ℕ, List, map}
use Rattle.decl_core.specs.ObjectForm.{ObjectForm}
use Rattle.decl_read.specs.Sources.{AreObjectsOf}
use Rattle.decl_core.specs.HoldForm.{RulesForm, no_rules}
use Rattle.decl_read.specs.HeldSources.{AreHeldObjectsOf}

-- each of these objects says nothing of clients that are gone and of time
abbrev pub nothing_of_each : List ObjectForm → List RulesForm
nothing_of_each objects = map (λ (o : ObjectForm). no_rules) objects

-- The words of holds are words in their places alone: a source of the grammar without holds has the objects that it has by
-- that grammar, each of which says nothing, and no others.
abbrev pub OldSourcesStay : Type 0
OldSourcesStay =
    (source : List ℕ) (objects : List ObjectForm) → AreObjectsOf source objects →
    (read : List ObjectForm) (rules : List RulesForm) →
    AreHeldObjectsOf source read rules ↔ (read ≡ objects) × (rules ≡ nothing_of_each objects)
