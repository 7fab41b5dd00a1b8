-- Calls that are made again and again.
use Rattle.std.specs.Prelude.{◌≡◌, ℕ, ◌≤◌, ◌<◌, List, Option, Some, None, All, slice_get, slice_set, take}
use Rattle.decl_core.specs.HoldForm.{EveryForm}
use Rattle.client_core.specs.declared.ticking.Ticking.{Ticking}
use Rattle.client_core.specs.GoneClients.{later}

-- due at the start, by no session yet
abbrev pub first_tick : EveryForm → Ticking
first_tick e = record { seconds = e.seconds; op = e.op; session = 0; at = 0 }

-- by this session
abbrev pub seated_by : ℕ → Ticking → Ticking
seated_by session t = record t { session = session }

-- made in this second, or still waiting then; and refused in it
abbrev pub ticked : ℕ → Ticking → Ticking
ticked second t = record t { at = later second t.seconds }

abbrev pub unticked : ℕ → Ticking → Ticking
unticked second t = record t { at = later second 1 }

-- the one at a place becomes this; where there is none, nothing changes
abbrev pub ChangesBy : Option Ticking → ℕ → (Ticking → Ticking) → List Ticking → List Ticking → Type 0
ChangesBy None place f old new = new ≡ old
ChangesBy (Some t) place f old new = new ≡ slice_set old place (f t)

abbrev pub ChangesAt : ℕ → (Ticking → Ticking) → List Ticking → List Ticking → Type 0
ChangesAt place f old new = ChangesBy (slice_get old place) place f old new

-- the first of these that is due in this second stands at this place
pub record IsFirstDue (second : ℕ) (ticking : List Ticking) (place : ℕ) : Type 0 where
  pub tick : Ticking
  pub there : slice_get ticking place ≡ Some tick
  pub due : tick.at ≤ second
  pub first : All (λ (t : Ticking). second < t.at) (take place ticking)
