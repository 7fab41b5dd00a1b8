-- What the lines of a desk's trace tell.
use Rattle.std.specs.Prelude.{ℕ, List, [], map, Option, Some, None}
use Rattle.board_core.specs.declared.event.TraceEvent.{TraceEvent}
use Rattle.board_core.specs.declared.event.TraceEvent.TheVariants.{Start, End}
use Rattle.page_core.specs.ObjectCalls.{AcceptedCall}
use Rattle.board_core.specs.Board.{Board, call_at}
use Rattle.word_core.specs.Events.{Called}
use Rattle.word_core.specs.Text.{TraceLine, call_started, call_ended}

-- a call with its number; of no call, nothing but the number
abbrev pub called_of : ℕ → Option AcceptedCall → Called
called_of n None = record { number = n; session = 0; operation = 0; arguments = [] }
called_of n (Some call) = record { number = n; session = call.session; operation = call.op; arguments = call.arguments }

-- what the line of an event tells: of a start its call, of an end its number and reply
abbrev pub line_told : List AcceptedCall → TraceEvent → TraceLine
line_told calls (Start n) = call_started (called_of n (call_at calls n))
line_told calls (End n reply) = call_ended n reply

-- what the lines tell of all that happened, the oldest first
abbrev pub lines_told : Board → List TraceLine
lines_told b = map (line_told b.calls) b.trace
