-- What lines tell of clients that does not fit what was told of them before.
use Rattle.std.specs.Prelude.{◌≡◌, ◌≢◌, ◌⊎◌, ℕ, ◌<◌, ◌≤◌, ◌^◌, List, length, Some, None, slice_get}
use Rattle.audit_core.specs.View.{told_view}
use Rattle.live_core.specs.declared.front.CarriedCall.{CarriedCall}
use Rattle.guest_core.specs.declared.guest.Guest.{Guest}
use Rattle.guest_core.specs.declared.seats.SeatHolder.TheVariants.{Free}
use Rattle.guest_core.specs.Guests.{Guests, IsNamed, HasNoName}
use Rattle.audit_core.specs.declared.epoch_replay.ReplayNote.{ReplayNote}
use Rattle.audit_core.specs.declared.epoch_replay.ReplayNote.TheVariants as notes
use Rattle.audit_core.specs.EpochStands.{known_call}
use Rattle.audit_core.specs.Steps.{Step, ran, cancelled, named}
use Rattle.recover_core.specs.Carried.{told_by}

-- The client of a session has a name, and a call of it has not ended, or no key of 64 bits is left for one more.
pub record IsHeldUp (v : Guests) (session : ℕ) : Type 0 where
  pub has_name : HasNoName v session → ⊥
  pub held_up : (place : ℕ) (g : Guest) → IsNamed v session place g →
      (g.keys.asked ≢ None) ⊎ (g.keys.next ≡ 18446744073709551615)

-- why a call of a session is not remembered by the number that was told of it
pub data CannotRemember (v : Guests) (session told : ℕ) : Type 0 where
  session_high : 65535 < session → CannotRemember v session told
  number_long : 2 ^ 64 ≤ told → CannotRemember v session told
  held_up : IsHeldUp v session → CannotRemember v session told

-- why a session does not get a name
pub data CannotCome (v : Guests) (session : ℕ) : Type 0 where
  session_high : 65535 < session → CannotCome v session
  not_free : slice_get v.seats session ≢ Some Free → CannotCome v session
  full : 65535 ≤ length v.guests → CannotCome v session

-- Why a step does not fit these clients, who were there before it.
abbrev pub IsOdd : ℕ → List CarriedCall → Guests → Step → Type 0
IsOdd base carried v (ran c reply) = CannotRemember v c.session (told_by base carried c.number)
IsOdd base carried v (cancelled c) = CannotRemember v c.session (told_by base carried c.number)
IsOdd base carried v (named session name) = CannotCome v session

-- why what a line told does not
abbrev pub IsOddNote : ℕ → List CarriedCall → Guests → ReplayNote → Type 0
IsOddNote base carried v notes.Began = ⊥
IsOddNote base carried v (notes.Ran known reply) = IsOdd base carried v (ran (known_call known) (told_view reply))
IsOddNote base carried v (notes.Cancelled known) = IsOdd base carried v (cancelled (known_call known))
IsOddNote base carried v (notes.Named session name) = IsOdd base carried v (named session name)
