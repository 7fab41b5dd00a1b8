-- What admission makes of a board, all at once.
use Rattle.std.specs.Prelude.{◌≡◌, ℕ, Bool, false, not, ◌==◌, List, ◌++◌, map, filter}
use Rattle.std.specs.List.{list_any}
use Rattle.device_core.specs.declared.hand.Stamp.{Stamp}
use Rattle.board_core.specs.declared.event.TraceEvent.TheVariants.{Start}
use Rattle.page_core.specs.ObjectCalls.{WaitingCall, RunningCall, read_pins}
use Rattle.board_core.specs.Board.{Board, Admits}

-- a call that waited runs, by those of these pins whose parts it reads
abbrev pub run_of : List (List Stamp) → WaitingCall → RunningCall
run_of pins w = record { number = w.number; call = w.call; pins = read_pins w.call.operation pins; taken = false }

-- this number is that of one of these calls
abbrev pub is_number_in : List WaitingCall → ℕ → Bool
is_number_in calls n = list_any (λ w. n == w.number) calls

-- Calls that waited have started, in this order: the trace ends with their starts, they run by the published pins, and
-- all else is as it was.
pub record HasStarted (b : Board) (ones : List WaitingCall) (after : Board) : Type 0 where
  pub trace : after.trace ≡ b.trace ++ map (λ w. Start w.number) ones
  pub running : after.running ≡ b.running ++ map (run_of b.pins) ones
  pub waiting : after.waiting ≡ filter (λ x. not (is_number_in ones x.number)) b.waiting
  pub object : after.object ≡ b.object
  pub calls : after.calls ≡ b.calls
  pub history : after.history ≡ b.history
  pub gone : after.gone ≡ b.gone
  pub opening : after.opening ≡ b.opening
  pub pins : after.pins ≡ b.pins

-- Admission follows: the waiting call of the least number that may start starts, until none may; these have started.
pub record Settles (b after : Board) : Type 0 where
  pub admits : Admits b after
  pub ones : List WaitingCall
  pub started : HasStarted b ones after
