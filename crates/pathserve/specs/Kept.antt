-- What a server of kept objects leaves that ends with status 0.
use Rattle.std.specs.Prelude.{◌≡◌, ℕ, List, ◌∷◌, Option, None, Some, IfSome, ⊤}
use Rattle.device_core.specs.Papers.{Papers}
use Rattle.live_core.specs.Scene.{Scene}
use Rattle.keep_loop.specs.Seen.{Happened}
use Rattle.keep_loop.specs.Seen.Happened.{Changed}
use Rattle.keep_loop.specs.Seen.{Always}
use Rattle.keep_loop.specs.Epochs.{Rules}
use Rattle.keep_loop.specs.Stands.{HasEnded, IsHonest}
use Rattle.keep_loop.specs.declared.keep.LoopLimits.{LoopLimits}
use Rattle.keep_core.specs.Ending.{ObjectsAreSaved}
use Rattle.keep_loop.specs.Turns.{Gives}

-- behind what was seen nothing came but that journals began anew, by such fronts
pub data Renewed (fronts : ℕ → List ℕ → Type 0) (before : List Happened) : List Happened → Type 0 where
  none : Renewed fronts before before
  more : {journal : ℕ} {front : List ℕ} {seen : List Happened} → fronts journal front → Renewed fronts before seen → Renewed fronts before (Changed journal front ∷ seen)

-- the same, where what is seen is known
abbrev pub AreRenewed : (ℕ → List ℕ → Type 0) → Option (List Happened) → Option (List Happened) → Type 0
AreRenewed fronts old None = ⊤
AreRenewed fronts old (Some seen) = (before : List Happened) × (old ≡ Some before) × Renewed fronts before seen

-- One history leads from what was served at first to this last one, and all its lines are stored; and under the names of the
-- parts of the last objects stand their last values. All else on the shelf is as it was
pub record IsKeptAs {T : Type 0} (gives : Gives T) (objects_of : T → List Scene) (first last : T) (limits : LoopLimits) (seen : Option (List Happened))
    (before after : Papers → Type 0) : Type 0 where
  pub ended : IfSome seen (λ s. HasEnded gives first limits s last)
  pub saved : (papers : Papers) → after papers → (was : Papers) × before was × ObjectsAreSaved (objects_of last) was papers

-- The same of some last one; and behind that nothing came but that journals began anew, each by a front of the last one
pub record IsKept {T : Type 0} (rules : Rules T) (objects_of : T → List Scene) (first : T) (limits : LoopLimits) (seen : Option (List Happened))
    (before after : Papers → Type 0) : Type 0 where
  pub last : T
  pub served : Option (List Happened)
  pub kept : IsKeptAs rules.gives objects_of first last limits served before after
  pub renewed : AreRenewed (rules.fronts last) served seen

-- What was seen was honest at each moment; and behind that nothing came but that journals began anew, each by a front of some last
-- one
pub record WasHonest {T : Type 0} (rules : Rules T) (first : T) (limits : LoopLimits) (seen : Option (List Happened)) : Type 0 where
  pub last : T
  pub served : Option (List Happened)
  pub honest : IfSome served (λ s. Always (IsHonest rules first limits) s)
  pub renewed : AreRenewed (rules.fronts last) served seen
