-- Seats, and what a `complete` answers.
use Rattle.std.specs.Prelude.{◌≡◌, ℕ, ◌+◌, ◌≤◌, ◌<◌, length, Result, Ok, Err}
use Rattle.page_core.specs.declared.outcome.Outcome.{Outcome}
use Rattle.page_core.specs.Outcomes.{TellsSame}
use Rattle.board_core.specs.Sound.{IsSound}
use Rattle.board_core.specs.declared.receipt.Receipt.{Receipt}
use Rattle.board_core.specs.Answers.{Finishes, IsStranger, receipt_by}
use Rattle.board_core.specs.declared.answer.Finished.{Finished}
use Rattle.office_core.specs.declared.client_seat.Seat.{Seat}
use Rattle.office_core.specs.ClientSeats.{Advances}
use Rattle.office_core.specs.declared.seat.NotTaken.{NotTaken}
use Rattle.office_core.specs.declared.seat.NotTaken.TheVariants.{Front as missed, Stranger as unknown}
use Rattle.office_core.specs.declared.seat.CompleteFault.{CompleteFault}
use Rattle.office_core.specs.declared.seat.CompleteFault.TheVariants.{Front, Stranger}
use Rattle.office_core.specs.Insides.{InsideView, KeepsSeats}

-- What a `complete` tells of an outcome and of the seat: a receipt whose outcome tells the same, at a place past all
-- that the seat had seen; or the outcome back, and the seat as it was.
abbrev pub Receives : Seat → Outcome → Result Receipt CompleteFault → Seat → Type 0
Receives old o (Ok r) new = TellsSame o r.noted.outcome × (old.seen < r.place) × Advances old r.place new
Receives old o (Err (Front seen found back)) new = (seen ≡ old.seen) × (found ≤ seen) × (back ≡ o) × (new ≡ old)
Receives old o (Err (Stranger back)) new = (back ≡ o) × (new ≡ old)

-- What a `complete_in_place` tells of an outcome and of the seat: at a place past all that the seat had seen the
-- outcome, which stays where it lies, tells the same; or outcome and seat are as they were.
abbrev pub ReceivesInPlace : Seat → Outcome → Result Finished NotTaken → Outcome → Seat → Type 0
ReceivesInPlace old o (Ok f) after new = TellsSame o after × (old.seen < f.place) × Advances old f.place new
ReceivesInPlace old o (Err (missed seen found)) after new =
    (seen ≡ old.seen) × (found ≤ seen) × (after ≡ o) × (new ≡ old)
ReceivesInPlace old o (Err unknown) after new = (after ≡ o) × (new ≡ old)

-- why it was not taken, with the outcome
abbrev pub fault_with : NotTaken → Outcome → CompleteFault
fault_with (missed seen found) o = Front seen found o
fault_with unknown o = Stranger o

-- the place that the next entry gets is past all that the seat has seen
abbrev pub IsAhead : InsideView → Seat → Type 0
IsAhead r seat = seat.seen < length r.board.history + 1

-- What a `complete` makes of the inside: what `finish` makes of the desk's board, where the next place is past all that
-- the seat has seen; else it is as it was.
abbrev pub Completes : InsideView → Seat → Outcome → Result Receipt CompleteFault → InsideView → Type 0
Completes old seat o (Ok r) new = IsAhead old seat × Finishes old.board o r new.board × KeepsSeats old new
Completes old seat o (Err (Front seen found back)) new =
    (found ≡ length old.board.history + 1) × (found ≤ seat.seen) × (new ≡ old)
Completes old seat o (Err (Stranger back)) new = IsAhead old seat × IsStranger old.board o × (new ≡ old)

-- What a `complete_in_place` makes of the inside: what `finish` makes of the desk's board, where the next place is past
-- all that the seat has seen; else it is as it was.
abbrev pub CompletesInPlace : InsideView → Seat → Outcome → Result Finished NotTaken → Outcome → InsideView → Type 0
CompletesInPlace old seat o (Ok f) after new =
    IsAhead old seat × Finishes old.board o (receipt_by f after) new.board × KeepsSeats old new
CompletesInPlace old seat o (Err (missed seen found)) after new =
    (found ≡ length old.board.history + 1) × (found ≤ seat.seen) × (new ≡ old)
CompletesInPlace old seat o (Err unknown) after new = IsAhead old seat × IsStranger old.board o × (new ≡ old)

-- Some inside whose board is sound, before and after it completed so.
pub record CompletedIn (seat : Seat) (o : Outcome) (answer : Result Finished NotTaken) (after : Outcome) : Type 0 where
  pub old : InsideView
  pub new : InsideView
  pub sound : IsSound old.board
  pub completes : CompletesInPlace old seat o answer after new
