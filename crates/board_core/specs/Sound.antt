-- What holds of each board that a desk has.
use Rattle.std.specs.Prelude.{◌≡◌, ◌≢◌, ℕ, ◌+◌, ◌<◌, ◌≤◌, ◌⊎◌, List, [], ◌∷◌, length, map, take, slice_get, Some}
use Rattle.value_core.specs.declared.kind.Kind.{Kind}
use Rattle.path_tree.specs.Trace.{IsTrace, IsFresh, IsAmong, running_calls}
use Rattle.path_tree.specs.Trace.{Call as PathCall}
use Rattle.path_tree.specs.Satisfies.{SatisfiesAll}
use Rattle.path_count.specs.Stands.{started_calls}
use Rattle.decl_core.specs.declared.object.Object.{Object}
use Rattle.decl_core.specs.declared.object.Operation.{Operation}
use Rattle.decl_core.specs.declared.object.Part.{Part}
use Rattle.decl_core.specs.Bodies.{body_of}
use Rattle.decl_core.specs.ObjectMap.{object_of}
use Rattle.decl_core.specs.ObjectMap.{operation_of}
use Rattle.decl_core.specs.Touched.{Reads}
use Rattle.decl_core.specs.Exclusive.{IsExclusive}
use Rattle.device_core.specs.declared.hand.Stamp.{Stamp}
use Rattle.page_core.specs.PartPins.{pin_at}
use Rattle.apply_core.specs.Fits.{ArgumentsFit}
use Rattle.apply_core.specs.declared.reply.Reply.{Reply}
use Rattle.board_core.specs.declared.event.TraceEvent.{TraceEvent}
use Rattle.board_core.specs.declared.event.TraceEvent.TheVariants.{Start, End}
use Rattle.page_core.specs.Lists.{Every, EachPair, Among}
use Rattle.page_core.specs.ObjectCalls.{AcceptedCall, WaitingCall, RunningCall, Noted, read_pins}
use Rattle.board_core.specs.Board.{Board, bodies, call_at, paths_of, past_of, most_sessions}
use Rattle.board_core.specs.Chain.{IsChained, AreOf}

-- the kinds of an object's parts
abbrev pub kinds_of : Object → List Kind
kinds_of o = map (λ (p : Part). p.kind) o.parts.items

-- the number of the call of an event
abbrev pub event_number : TraceEvent → ℕ
event_number (Start n) = n
event_number (End n reply) = n

-- there is a call of this number
abbrev pub IsNumbered : List AcceptedCall → ℕ → Type 0
IsNumbered calls n = (call : AcceptedCall) × (call_at calls n ≡ Some call)

-- no operation that stands before this place has the name of this one
abbrev pub IsFirstNamed : Object → ℕ → Operation → Type 0
IsFirstNamed o place operation = Every (λ x. x.name ≡ operation.name → ⊥) (take place (bodies o))

-- a call is of a session that there may be; its operation stands at its place in the object, and is the first of its
-- name there; and its arguments fit it
pub record IsMadeOf (o : Object) (call : AcceptedCall) : Type 0 where
  pub session : (1 ≤ call.session) × (call.session ≤ most_sessions)
  pub operation : slice_get (object_of o).operations call.op ≡ Some (operation_of call.operation)
  pub first : IsFirstNamed o call.op call.operation
  pub parts : AreOf (kinds_of o) call.operation
  pub fits : ArgumentsFit call.operation call.arguments

-- a call, as paths see it
abbrev pub as_path : ℕ → AcceptedCall → PathCall
as_path n call = record { number = n; operation = call.op }

-- a waiting call is the accepted one of its number, and has not started
pub record IsWaitingIn (b : Board) (w : WaitingCall) : Type 0 where
  pub call : call_at b.calls w.number ≡ Some w.call
  pub fresh : IsFresh w.number (past_of b)

-- a running call is the accepted one of its number, and has started and not ended
pub record IsRunningIn (b : Board) (r : RunningCall) : Type 0 where
  pub call : call_at b.calls r.number ≡ Some r.call
  pub among : IsAmong (as_path r.number r.call) (running_calls (past_of b))

-- the calls that wait and those that run, by their numbers, and what happened to them
pub record IsCounted (b : Board) : Type 0 where
  pub few : length b.calls ≤ 65536
  pub open_few : length b.waiting + length b.running ≤ 256
  pub counted : started_calls (past_of b) + length b.waiting ≤ length b.calls
  pub trace : IsTrace (past_of b)
  pub satisfied : SatisfiesAll (paths_of b) (past_of b)
  pub numbered : Every (λ e. IsNumbered b.calls (event_number e)) b.trace
  pub fresh : (n : ℕ) → length b.calls < n → IsFresh n (past_of b)
  pub made : Every (IsMadeOf b.object) b.calls
  pub waits : Every (IsWaitingIn b) b.waiting
  pub runs : Every (IsRunningIn b) b.running
  pub in_order : EachPair (λ x y. x.number < y.number) b.waiting
  pub apart : EachPair (λ x y. x.number ≢ y.number) b.running

-- the published pin of each part that a running call reads is the one that it took
abbrev pub IsPinned : List (List Stamp) → RunningCall → Type 0
IsPinned pins r = (p : ℕ) → Reads (body_of r.call.operation).statements p → slice_get pins p ≡ pin_at r.pins p

-- of pins, one for each of so many parts, a running call has those of the parts that its operation reads
pub record HasItsPins (parts : ℕ) (r : RunningCall) : Type 0 where
  pub pins : List (List Stamp)
  pub each : length pins ≡ parts
  pub kept : r.pins ≡ read_pins r.call.operation pins

-- the pins of a board, and its history
pub record IsPinnedBoard (b : Board) : Type 0 where
  pub exclusive : IsExclusive (object_of b.object)
  pub each : length b.pins ≡ length b.object.parts.items
  pub opening_each : length b.opening ≡ length b.object.parts.items
  pub long : Every (HasItsPins (length b.object.parts.items)) b.running
  pub gone : length b.gone ≡ most_sessions
  pub pinned : Every (IsPinned b.pins) b.running
  pub chained : IsChained b.opening b.history b.pins
  pub entries : Every (λ e. AreOf (kinds_of b.object) e.operation) b.history

-- a call of this number and session waits or runs
abbrev pub IsOpen : Board → ℕ → ℕ → Type 0
IsOpen b n session =
    ((w : WaitingCall) × Among w b.waiting × (w.number ≡ n) × (w.call.session ≡ session))
    ⊎ ((r : RunningCall) × Among r b.running × (r.number ≡ n) × (r.call.session ≡ session))

-- an entry is of the accepted call of its number
pub record IsNoted (calls : List AcceptedCall) (e : Noted) : Type 0 where
  pub call : AcceptedCall
  pub there : call_at calls e.number ≡ Some call
  pub session : e.session ≡ call.session
  pub operation : e.operation ≡ call.operation
  pub arguments : e.arguments ≡ call.arguments

-- the ends of what happened, in order
abbrev pub ends_of : List TraceEvent → List (ℕ × Reply)
ends_of [] = []
ends_of (Start n ∷ trace) = ends_of trace
ends_of (End n reply ∷ trace) = (n, reply) ∷ ends_of trace

-- What the history tells of the sessions: each has one call at most that waits or runs, later than those that have
-- finished, and its finished calls stand in their order; the history is the ends of what happened.
pub record IsTold (b : Board) : Type 0 where
  pub one_each : (m n session : ℕ) → IsOpen b m session → IsOpen b n session → m ≡ n
  pub later : (n session : ℕ) → IsOpen b n session → Every (λ e. e.session ≡ session → e.number < n) b.history
  pub in_order : EachPair (λ e f. e.session ≡ f.session → e.number < f.number) b.history
  pub noted : Every (IsNoted b.calls) b.history
  pub ends : ends_of b.trace ≡ map (λ (e : Noted). (e.number, e.reply)) b.history

pub record IsSound (b : Board) : Type 0 where
  pub counted : IsCounted b
  pub pinned : IsPinnedBoard b
  pub told : IsTold b
