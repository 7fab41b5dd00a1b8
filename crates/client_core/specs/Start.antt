-- What the server begins with, where something is held.
use Rattle.std.specs.Prelude.{◌≡◌, ◌≢◌, ◌⊎◌, ◌≤◌, ◌<◌, ℕ, true, false, List, Some, All, map, slice_get}
use Rattle.guest_core.specs.declared.guest.Guest.{Guest}
use Rattle.guest_core.specs.declared.seats.SeatHolder.TheVariants.{Free}
use Rattle.guest_core.specs.Guests.{Guests, IsNamed, HasNoName}
use Rattle.live_core.specs.Calls.{seat_of}
use Rattle.guest_core.specs.Held.{HeldCall}
use Rattle.client_core.specs.declared.holder.Holder.{Holder}
use Rattle.client_core.specs.GoneClients.{due_from, first_pause}
use Rattle.client_core.specs.Since.{since_start}
use Rattle.client_core.specs.Holding.{Holding, with_gone, with_since}

-- At the start this one is gone: it holds something; whether it has a name is known, and a call is due for it as for one
-- that goes in this second.
pub record IsGoneBy (v : Guests) (held : List HeldCall) (second away : ℕ) (g : Holder) : Type 0 where
  pub holds : (k : ℕ) × (c : HeldCall) × (slice_get held k ≡ Some c) × (g.session ≡ seat_of c.session)
  pub named : g.is_named ≡ true → (p : ℕ) × (guest : Guest) × IsNamed v g.session p guest
  pub nameless : g.is_named ≡ false → HasNoName v g.session
  pub when : g.when ≡ due_from g.is_named second away
  pub pause : g.pause ≡ first_pause
  pub since : g.since ≡ second

-- the session of a held call is among these
abbrev pub IsAmong : List Holder → HeldCall → Type 0
IsAmong gone c = (k : ℕ) × (g : Holder) × (slice_get gone k ≡ Some g) × (g.session ≡ seat_of c.session)

-- The server begins: all who hold something are gone, and nobody else; what is held is known since now, and it, and what is
-- due by time, stays.
pub record Begins (v : Guests) (second : ℕ) (old new : Holding) : Type 0 where
  pub left : new ≡ with_gone (with_since old (map (since_start second) old.held)) new.gone
  pub gone : All (IsGoneBy v old.held second old.away) new.gone
  pub all : All (IsAmong new.gone) old.held

-- the number of the session of a held call is not free
abbrev pub IsKept : Guests → HeldCall → Type 0
IsKept v c = slice_get v.seats (seat_of c.session) ≢ Some Free

-- no number is free that was not
abbrev pub KeepsTaken : Guests → Guests → Type 0
KeepsTaken old new = (s : ℕ) → slice_get old.seats s ≢ Some Free → slice_get new.seats s ≢ Some Free

-- no number below this one is free
abbrev pub NoneFreeBelow : Guests → ℕ → Type 0
NoneFreeBelow v n = (s : ℕ) → s < n → slice_get v.seats s ≢ Some Free

-- a session holds none of these
abbrev pub HoldsNoneOf : List HeldCall → ℕ → Type 0
HoldsNoneOf held session = All (λ (c : HeldCall). seat_of c.session ≢ session) held

-- the session of a held call has a name, or a number up to this one
abbrev pub IsBelow : Guests → ℕ → HeldCall → Type 0
IsBelow v most c =
    ((p : ℕ) × (g : Guest) × IsNamed v (seat_of c.session) p g) ⊎ (seat_of c.session ≤ most)
