-- What is done for clients that are gone, and again and again.
use Rattle.std.specs.Prelude.{◌≡◌, ◌≢◌, ℕ, Bool, List, [], ◌∷◌, ◌++◌, Some, slice_get}
use Rattle.value_core.specs.declared.datum.Datum.{Datum}
use Rattle.decl_core.specs.ObjectMap.{object_of}
use Rattle.word_core.specs.Events.{Called}
use Rattle.live_core.specs.declared.live.Taken.{Taken}
use Rattle.live_core.specs.Hall.{Every}
use Rattle.live_core.specs.Lines.{all_lines}
use Rattle.guest_core.specs.Entering.{Leaves}
use Rattle.guest_core.specs.declared.seats.SeatHolder.TheVariants.{Nameless}
use Rattle.guest_core.specs.Guests.{Guests, SomebodyHas, with_seat}
use Rattle.guest_core.specs.Seats.{IsLeastFree}
use Rattle.live_core.specs.Calls.{Does}
use Rattle.live_core.specs.Scene.{Scene, with_guests}
use Rattle.client_core.specs.declared.client.OpenObject.{OpenObject}
use Rattle.client_core.specs.Custody.{Custody, IsOwed, HasNone}
use Rattle.client_core.specs.State.{State, opened_at, with_object}
use Rattle.client_core.specs.Deeds.{Texts}
use Rattle.client_core.specs.Asked.{AllEnd, Follows}
use Rattle.client_core.specs.Turns.{GoesOn}

-- no connection has a session
abbrev pub NoneHas : ℕ → ℕ → State → Type 0
NoneHas at session s =
    (place : ℕ) (opened : OpenObject) → opened_at s place ≡ Some opened → opened.object ≡ at → opened.session ≡ session → ⊥

-- A call is made for a session that no connection has, of a client that is known. Nobody is told its number; each that waits for one that ran is told
-- its end, and what is held follows from these.
pub record CallsFor (at session operation : ℕ) (arguments : List Datum) (old : State) (said added : Texts) (new : State) : Type 0 where
  pub apart : NoneHas at session old
  pub before : Scene
  pub there : slice_get old.objects at ≡ Some before
  pub known : SomebodyHas before.guests session
  pub custody : Custody
  pub has : slice_get old.custody at ≡ Some custody
  pub owed : IsOwed (object_of before.hall.object) custody session operation arguments
  pub taken : Taken
  pub after : Scene
  pub does : Does before session operation arguments taken after
  pub lines : added ≡ (at, all_lines (object_of before.hall.object) taken.ran.items) ∷ []
  pub mid : State
  pub ends : AllEnd at after taken.ran.items (with_object old at after) said [] mid
  pub follows : Follows at after taken.ran.items mid new

-- a session that no connection has gets a number, by which calls are made again and again
pub record SeatsOne (at session : ℕ) (old : State) (said added : Texts) (new : State) : Type 0 where
  pub told : said ≡ []
  pub lines : added ≡ []
  pub object : Scene
  pub there : slice_get old.objects at ≡ Some object
  pub custody : Custody
  pub has : slice_get old.custody at ≡ Some custody
  pub free : IsLeastFree object.guests.seats session
  pub left : new ≡ with_object old at (with_guests object (with_seat object.guests session Nameless))

-- a session leaves that no connection has, that holds nothing, and of which no call waits
pub record Frees (at session : ℕ) (old : State) (said added : Texts) (new : State) : Type 0 where
  pub told : said ≡ []
  pub lines : added ≡ []
  pub apart : NoneHas at session old
  pub object : Scene
  pub there : slice_get old.objects at ≡ Some object
  pub custody : Custody
  pub has : slice_get old.custody at ≡ Some custody
  pub none : HasNone session custody.held
  pub idle : Every (λ (c : Called). c.session ≢ session) object.hall.waiting
  pub now : ℕ
  pub was_here : Bool
  pub guests : Guests
  pub leaves : Leaves object.guests session now was_here guests
  pub left : new ≡ with_object old at (with_guests object guests)

-- Held lines are done, each of one of whom no call waits; what is owed for sessions that no connection has is called; and
-- those of them that hold nothing leave. Where an object says nothing of gone clients and of time, it is the held lines alone.
pub data Settles : State → Texts → Texts → State → Type 0 where
  rests : {old : State} → Settles old [] [] old
  goes_on : {old new : State} (mid : State) (said added more further : Texts) → GoesOn old said added mid →
      Settles mid more further new → Settles old (said ++ more) (added ++ further) new
  calls : {old new : State} (mid : State) (said added more further : Texts) (at session operation : ℕ) (arguments : List Datum) →
      CallsFor at session operation arguments old said added mid → Settles mid more further new →
      Settles old (said ++ more) (added ++ further) new
  seats : {old new : State} (mid : State) (said added more further : Texts) (at session : ℕ) →
      SeatsOne at session old said added mid → Settles mid more further new →
      Settles old (said ++ more) (added ++ further) new
  frees : {old new : State} (mid : State) (said added more further : Texts) (at session : ℕ) →
      Frees at session old said added mid → Settles mid more further new →
      Settles old (said ++ more) (added ++ further) new
