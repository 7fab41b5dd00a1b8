-- An object with its clients, and what lines behind the front of its epoch told.
use Rattle.std.specs.Prelude.{◌≡◌, ℕ, ◌<◌, ◌≤◌, List, All, length, Some, None, slice_get}
use Rattle.value_core.specs.Datum.{IsDatum}
use Rattle.decl_core.specs.ObjectForm.{ObjectForm}
use Rattle.decl_core.specs.ObjectMap.{object_of}
use Rattle.word_core.specs.Events.{Called}
use Rattle.live_core.specs.Hall.{Every, IsHeld}
use Rattle.guest_core.specs.declared.seats.SeatHolder.TheVariants.{Void}
use Rattle.guest_core.specs.Guests.{Guests, IsSound}
use Rattle.audit_core.specs.Carried.{IsTheOne}
use Rattle.audit_core.specs.Steps.{Step, Begun, Heard, IsUnused, told_by}
use Rattle.audit_core.specs.EpochTells.{IsSession}
use Rattle.live_core.specs.Scene.{Scene}

-- A call that waits: no line told of its number; its session and its arguments can be written; and where a call was
-- carried into the epoch by its number, it is that call.
pub record IsAwaited (e : Begun) (steps : List Step) (c : Called) : Type 0 where
  pub unused : IsUnused c.number steps
  pub session : IsSession c.session
  pub values : All IsDatum c.arguments
  pub one : IsTheOne e.carried c

-- What the types of guest_core say of clients: each session that has a place has its client there, 0 is no number of a
-- session, and there are at most 65,535.
pub record AreSeated (v : Guests) : Type 0 where
  pub sound : IsSound v
  pub nobody : slice_get v.seats 0 ≡ Some Void
  pub few : length v.seats ≤ 65536

-- The lines told just what stands behind the object: nothing runs, each call that ran, and no number that was not given out.
pub record Stands (o : ObjectForm) (e : Begun) (heard : Heard) (s : Scene) : Type 0 where
  pub object : object_of s.hall.object ≡ o
  pub rests : heard.running ≡ None
  pub held : IsHeld s.hall (told_by e heard.steps)
  pub waiting : Every (IsAwaited e heard.steps) s.hall.waiting
  pub later : (number : ℕ) → s.hall.given < number → IsUnused number heard.steps
  pub carried : length e.carried ≤ s.hall.given
  pub sessions : s.hall.sessions ≤ 65535
  pub seated : AreSeated s.guests
