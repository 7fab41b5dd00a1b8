-- Objects that are opened, and the seats there.
use Rattle.std.specs.Prelude.{◌≡◌, ◌≢◌, ◌⊎◌, ◌↔◌, ℕ, ◌<◌, ◌≤◌, List, Option, Some, None, Result, Ok, Err, IsTrue, IsSome}
use Rattle.std.specs.Prelude.{slice_get}
use Rattle.page_core.specs.Lists.{Every}
use Rattle.office_core.specs.declared.client_seat.Seat.{Seat}
use Rattle.session_text.specs.declared.line.LineRefusal.TheVariants as refusals
use Rattle.office_core.specs.declared.named.NameFault.{NameFault}
use Rattle.office_core.specs.declared.named.NameFault.TheVariants as faults
use Rattle.session_core.specs.declared.order.Named.{Named}
use Rattle.session_core.specs.declared.entered.EnteredObject.{EnteredObject}
use Rattle.session_core.specs.declared.entered.NotEntered.{NotEntered}
use Rattle.session_core.specs.declared.entered.NotEntered.TheVariants.{Refused, Memory}

-- the object at this place has this name
abbrev pub IsAt : List Named → ℕ → List ℕ → Type 0
IsAt offices at name = (n : Named) × (slice_get offices at ≡ Some n) × (n.name ≡ name)

-- no object has this name
abbrev pub HasNone : List Named → List ℕ → Type 0
HasNone offices name = Every (λ (n : Named). n.name ≢ name) offices

-- why a client of a name gets no seat
abbrev pub why_not : NameFault → NotEntered
why_not faults.InUse = Refused refusals.InUse
why_not faults.SeatsFull = Refused refusals.Full
why_not faults.Memory = Memory

-- The object of this name is opened, for a client of a name or none: a seat there, and the key of its next call, which
-- is told to a client of a name alone.
pub record IsEntered (offices : List Named) (name : List ℕ) (client : Option (List ℕ)) (e : EnteredObject) (next : Option ℕ)
    : Type 0 where
  pub at : IsAt offices e.at name
  pub named : IsTrue e.is_named ↔ IsSome client
  pub told : IsSome next ↔ IsSome client
  pub within : (0 < e.seat.session) × (e.seat.session ≤ 1024)

-- so it is; or it is not, and where it is refused as unknown no object has this name
abbrev pub IsFound : List Named → List ℕ → Option (List ℕ) → Result (EnteredObject × Option ℕ) NotEntered → Type 0
IsFound offices name client (Ok found) = IsEntered offices name client found.0 found.1
IsFound offices name client (Err why) = why ≡ Refused refusals.NoObject → HasNone offices name

-- What is left of an object that was opened: its place, and its seat there, but that of a client of a name may be
-- parked.
abbrev pub LeavesSeat : Option EnteredObject → Option ℕ → Option Seat → Type 0
LeavesSeat None object seat = (object ≡ None) × (seat ≡ None)
LeavesSeat (Some e) object seat =
    (object ≡ Some e.at) × ((seat ≡ Some e.seat) ⊎ ((seat ≡ None) × IsTrue e.is_named))
