-- What follows from what a turn gives.
use Rattle.std.specs.Prelude.{◌≡◌, ℕ, true, false, List, [], ◌∷◌, ◌++◌, Some, slice_get}
use Rattle.word_core.specs.Events.{Happened}
use Rattle.decl_core.specs.HoldForm.{RulesForm}
use Rattle.guest_core.specs.Held.{AreHeld}
use Rattle.live_core.specs.Hall.{Told, IsHeld}
use Rattle.keep_loop.specs.Turns.{Asked}
use Rattle.keep_loop.specs.Turns.Asked.{Heard, Noted, Changes}
use Rattle.client_core.specs.Custody.{Custody}
use Rattle.client_core.specs.GoneClients.{first_pause, pauses}
use Rattle.client_core.specs.State.{State}
use Rattle.client_core.specs.Deeds.{Texts}
use Rattle.client_core.specs.Asked.{IsCancelled}
use Rattle.client_core.specs.Moves.{Moves, BeginsHeld}
use Rattle.client_core.specs.Given.{Gives}

-- the objects go by steps whose lines are those that are added, or one begins its next epoch
abbrev pub MovesBy : State → Asked → Texts → State → Type 0
MovesBy old (Heard who line end) added new = Moves old.objects added new.objects
MovesBy old (Noted note) added new = Moves old.objects added new.objects
MovesBy old (Changes journal front true) added new = BeginsHeld old journal front new
MovesBy old (Changes journal front false) added new = new.objects ≡ old.objects

-- Each turn does so.
abbrev pub TurnsMove : Type 0
TurnsMove = (old new : State) (asked : Asked) (said added : Texts) → Gives old asked said added new → MovesBy old asked added new

-- Where `cancel N Cancelled` is told, the call that is cancelled is the one of which N was told.
abbrev pub CancelledIsAsked : Type 0
CancelledIsAsked =
    (place told : ℕ) (old new : State) (said added : Texts) (c : IsCancelled place told old said added new) (t : Told) →
    IsHeld c.object.hall t → c.number ≡ told

-- What is held of the object at a place, by these rules, is what all that happened to it has left: this, and more since.
pub record HoldsBehind (s : State) (j : ℕ) (rules : RulesForm) (past : List Happened) : Type 0 where
  pub custody : Custody
  pub there : slice_get s.custody j ≡ Some custody
  pub rules_are : custody.rules ≡ rules
  pub more : List Happened
  pub are : AreHeld rules.holds (more ++ past) custody.held

-- Each turn leaves it so.
abbrev pub HeldFollows : Type 0
HeldFollows =
    (old new : State) (asked : Asked) (said added : Texts) → Gives old asked said added new → (j : ℕ) (rules : RulesForm) (past : List Happened) →
    HoldsBehind old j rules past → HoldsBehind new j rules past

-- So many seconds pass between calls for one that is gone, where each is refused.
abbrev pub PausesDouble : Type 0
PausesDouble = pauses 8 first_pause ≡ 1 ∷ 2 ∷ 4 ∷ 8 ∷ 16 ∷ 32 ∷ 60 ∷ 60 ∷ []
