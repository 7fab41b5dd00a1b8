-- What lies under the lock of an office.
use Rattle.std.specs.Prelude.{◌≡◌, ℕ, ◌+◌, List, length, Result, Ok, Err}
use Rattle.page_core.specs.ObjectCalls.{AcceptedCall}
use Rattle.board_core.specs.Board.{Board, joined}
use Rattle.board_core.specs.Started.{Settles}
use Rattle.guest_core.specs.declared.answer.SubmitFault.{SubmitFault}
use Rattle.board_core.specs.Answers.{Asked, IsTaken, IsRefused}
use Rattle.office_core.specs.declared.clients.Client.{Client}

-- a board, how many sessions were given out, and the names under which some of them were
pub record InsideView : Type 0 where
  pub board : Board
  pub given : ℕ
  pub clients : List Client

-- the sessions that were given out, and their names, are as they were
abbrev pub KeepsSeats : InsideView → InsideView → Type 0
KeepsSeats old new = (new.given ≡ old.given) × (new.clients ≡ old.clients)

-- what a submission answers and makes of the board: the next number, and the call joins; or the first refusal that
-- applies, and all is as it was
abbrev pub Submits : Board → Asked → Result ℕ SubmitFault → Board → Type 0
Submits b a (Ok n) after =
    (n ≡ length b.calls + 1) × ((call : AcceptedCall) × IsTaken b a call × Settles (joined b call) after)
Submits b a (Err fault) after = IsRefused b a fault × (after ≡ b)
