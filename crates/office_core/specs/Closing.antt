-- When an inside is closed.
use Rattle.std.specs.Prelude.{◌≡◌, ℕ, ◌+◌, ◌-◌, ◌<◌, List, ◌++◌, length, slice_get, take, Some, Result, Ok, Err}
use Rattle.board_core.specs.declared.receipt.Receipt.{Receipt}
use Rattle.page_core.specs.Lists.{Every}
use Rattle.page_core.specs.ObjectCalls.{Noted}
use Rattle.board_core.specs.Board.{Board}
use Rattle.board_core.specs.Outcomes.{IsEntryOf}
use Rattle.office_core.specs.Slips.{Told, StandsIn}
use Rattle.office_core.specs.declared.client_seat.Seat.{Seat}
use Rattle.office_core.specs.ClientSeats.{AreSeats}
use Rattle.office_core.specs.Clients.{parked_of}
use Rattle.office_core.specs.declared.inside.CloseFault.{CloseFault}
use Rattle.office_core.specs.declared.inside.CloseFault.TheVariants.{Outstanding, SeatMissing, Mismatch}
use Rattle.office_core.specs.declared.inside.CloseRefused.{CloseRefused}
use Rattle.office_core.specs.declared.inside.Closed.{Closed}
use Rattle.office_core.specs.Insides.{InsideView}

-- no call waits or runs
abbrev pub IsIdle : Board → Type 0
IsIdle b = length b.waiting + length b.running ≡ 0

-- those of an inside, with the seats that are parked there
abbrev pub AreSeatsOf : InsideView → List Seat → Type 0
AreSeatsOf r seats = AreSeats r.given (length r.board.history) (parked_of r.clients ++ seats)

-- a receipt tells of the entry at its place
abbrev pub Stands : List Noted → Receipt → Type 0
Stands history r =
    (0 < r.place) × ((e : Noted) × (slice_get history (r.place - 1) ≡ Some e)
    × IsEntryOf r.noted.session r.noted.outcome e)

-- the receipt at this index is of this place, the entry there is another one, and each receipt before it stands
pub record Misses (X : Type 0) (stands : X → Type 0) (place_of : X → ℕ) (receipts : List X) (k place : ℕ) : Type 0 where
  pub receipt : X
  pub there : slice_get receipts k ≡ Some receipt
  pub of : place ≡ place_of receipt
  pub other : stands receipt → ⊥
  pub before : Every stands (take k receipts)

-- what keeps an inside open whatever receipts there are
abbrev pub IsOpen : InsideView → List Seat → CloseFault → Type 0
IsOpen r seats Outstanding = IsIdle r.board → ⊥
IsOpen r seats SeatMissing = IsIdle r.board × (AreSeatsOf r seats → ⊥)
IsOpen r seats (Mismatch k place) = ⊥

module _ (X : Type 0) (stands : List Noted → X → Type 0) (place_of : X → ℕ) where
  -- why an inside is not closed: the first cause that applies
  abbrev pub IsWhyBy : InsideView → List Seat → List X → CloseFault → Type 0
  IsWhyBy r seats receipts Outstanding = IsIdle r.board → ⊥
  IsWhyBy r seats receipts SeatMissing = IsIdle r.board × (AreSeatsOf r seats → ⊥)
  IsWhyBy r seats receipts (Mismatch k place) =
      IsIdle r.board × AreSeatsOf r seats × Misses X (stands r.board.history) place_of receipts k place

  -- An inside is closed where nothing is missing; a refusal hands inside and seats back.
  abbrev pub ClosesBy : InsideView → List Seat → List X → Result Closed CloseRefused → Type 0
  ClosesBy r seats receipts (Ok closed) =
      IsIdle r.board × AreSeatsOf r seats × Every (stands r.board.history) receipts × (closed.desk ≡ r.board)
  ClosesBy r seats receipts (Err refused) =
      IsWhyBy r seats receipts refused.why × (refused.inside ≡ r) × (refused.seats.items ≡ seats)

abbrev pub place_of_receipt : Receipt → ℕ
place_of_receipt r = r.place

-- by receipts
abbrev pub Closes : InsideView → List Seat → List Receipt → Result Closed CloseRefused → Type 0
Closes = ClosesBy Receipt Stands place_of_receipt

abbrev pub place_told : Told → ℕ
place_told t = t.place

-- by slips
abbrev pub ClosesBySlips : InsideView → List Seat → List Told → Result Closed CloseRefused → Type 0
ClosesBySlips = ClosesBy Told StandsIn place_told
