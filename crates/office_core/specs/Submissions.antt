-- Submissions, and what a wait for a start answers.
use Rattle.std.specs.Prelude.{◌≡◌, ℕ, false, List, Some}
use Rattle.std.specs.Arc.{arc_value}
use Rattle.value_core.specs.declared.datum.Datum.{Datum}
use Rattle.decl_core.specs.declared.object.Operation.{Operation}
use Rattle.decl_core.specs.ObjectMap.{operation_of}
use Rattle.page_core.specs.declared.ticket.Ticket.{Ticket as Admitted}
use Rattle.page_core.specs.Tickets.{ticket_call}
use Rattle.page_core.specs.ObjectCalls.{AcceptedCall}
use Rattle.board_core.specs.Board.{Board, call_at}
use Rattle.board_core.specs.Sound.{IsSound}
use Rattle.board_core.specs.declared.answer.Collected.TheVariants as collected
use Rattle.board_core.specs.Answers.{Collects, HasName, waits_in, runs_in, ended_in}
use Rattle.office_core.specs.declared.seat.Submitted.{Submitted}
use Rattle.office_core.specs.declared.seat.Started.{Started}
use Rattle.office_core.specs.declared.seat.Started.TheVariants as started
use Rattle.office_core.specs.declared.seat.Tried.{Tried}
use Rattle.office_core.specs.declared.seat.Tried.TheVariants.{Ticket, Cancelled, Waiting, Stranger}
use Rattle.office_core.specs.Insides.{InsideView, KeepsSeats}

abbrev pub submitted_operation : Submitted → Operation
submitted_operation s = (arc_value s.call).operation

abbrev pub submitted_args : Submitted → List Datum
submitted_args s = (arc_value s.call).arguments

-- a submission is of an operation of this name, with these arguments
pub record Asks (name : List ℕ) (args : List Datum) (s : Submitted) : Type 0 where
  pub named : HasName name (submitted_operation s)
  pub arguments : submitted_args s ≡ args

-- an accepted call has the operation, by its whole declaration, and the arguments of a submission
pub record IsCallOf (s : Submitted) (call : AcceptedCall) : Type 0 where
  pub operation : operation_of call.operation ≡ operation_of (submitted_operation s)
  pub arguments : call.arguments ≡ submitted_args s

-- so has the call of its number
abbrev pub IsOf : Board → Submitted → Type 0
IsOf b s = (call : AcceptedCall) × (call_at b.calls s.number ≡ Some call) × IsCallOf s call

-- a ticket has the number, the operation and the arguments of a submission
pub record IsTicketOf (s : Submitted) (t : Admitted) : Type 0 where
  pub number : (ticket_call t).number ≡ s.number
  pub operation : operation_of (ticket_call t).operation ≡ operation_of (submitted_operation s)
  pub arguments : (ticket_call t).arguments ≡ submitted_args s

-- a submission was cancelled: on a sound board its call was accepted, and neither waits nor runs nor has ended
pub record WasCancelled (s : Submitted) : Type 0 where
  pub board : Board
  pub sound : IsSound board
  pub is_of : IsOf board s
  pub waits : waits_in board s.number ≡ false
  pub runs : runs_in board s.number ≡ false
  pub ended : ended_in board s.number ≡ false

-- what a look for a start tells of a submission
abbrev pub Tells : Submitted → Tried → Type 0
Tells s (Ticket t) = IsTicketOf s t
Tells s Cancelled = WasCancelled s
Tells s (Waiting back) = back ≡ s
Tells s (Stranger back) = back ≡ s

-- what a wait for a start tells of it
abbrev pub IsStartOf : Submitted → Started → Type 0
IsStartOf s (started.Ticket t) = IsTicketOf s t
IsStartOf s started.Cancelled = WasCancelled s
IsStartOf s (started.Stranger back) = back ≡ s

-- what a look for a start makes of the inside: what `collect` makes of the desk's board, where the call of that number
-- is of the submission
abbrev pub Tries : InsideView → Submitted → Tried → InsideView → Type 0
Tries old s (Ticket t) new =
    IsOf old.board s × Collects old.board s.number (collected.Ticket t) new.board × KeepsSeats old new
Tries old s Cancelled new =
    IsOf old.board s × Collects old.board s.number collected.Cancelled new.board × KeepsSeats old new
Tries old s (Waiting back) new =
    IsOf old.board s × Collects old.board s.number collected.Waiting new.board × KeepsSeats old new
Tries old s (Stranger back) new =
    (IsOf old.board s → Collects old.board s.number collected.Unknown new.board) × (new ≡ old)
