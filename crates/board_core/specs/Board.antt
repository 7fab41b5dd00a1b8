-- What a desk is, to whoever calls it: a board, and what each event makes of it.
use Rattle.std.specs.Prelude.{ℕ, zero, suc, ◌+◌, ◌-◌, ◌<◌, Bool, true, false, not, ◌==◌, List, [], ◌∷◌, ◌++◌, length}
use Rattle.std.specs.Prelude.{filter, fold, map, slice_get, slice_set, replicate, Option, Some, None}
use Rattle.path_tree.specs.Path.{Path}
use Rattle.path_tree.specs.Trace.{Event, Start as Began, End as Ended}
use Rattle.path_tree.specs.Satisfies.{MayStart}
use Rattle.std.specs.Arc.{arc_value}
use Rattle.decl_core.specs.declared.object.Object.{Object}
use Rattle.decl_core.specs.declared.object.Operation.{Operation}
use Rattle.decl_core.specs.ObjectMap.{object_of}
use Rattle.device_core.specs.declared.hand.Stamp.{Stamp}
use Rattle.apply_core.specs.declared.reply.Reply.{Reply}
use Rattle.page_core.specs.PartPins.{PartPin}
use Rattle.page_core.specs.Outcomes.{if_done}
use Rattle.board_core.specs.declared.event.TraceEvent.{TraceEvent}
use Rattle.board_core.specs.declared.event.TraceEvent.TheVariants.{Start, End}
use Rattle.page_core.specs.ObjectCalls.{AcceptedCall, WaitingCall, RunningCall, Noted, noted_of, read_pins}
use Rattle.page_core.specs.Lists.{Among}

-- sessions have the numbers from 1 to this one
abbrev pub most_sessions : ℕ
most_sessions = 1024

-- The object, the accepted calls in the order of their numbers from 1, what happened in order, its finished calls in
-- order, the calls that wait and those that run, of each session whether it is gone, and the pins of the parts, each a
-- page list: at the beginning, and the published ones.
pub record Board : Type 0 where
  pub object : Object
  pub calls : List AcceptedCall
  pub trace : List TraceEvent
  pub history : List Noted
  pub waiting : List WaitingCall
  pub running : List RunningCall
  pub gone : List Bool
  pub opening : List (List Stamp)
  pub pins : List (List Stamp)

-- the call of this number
abbrev pub call_at : List AcceptedCall → ℕ → Option AcceptedCall
call_at calls zero = None
call_at calls (suc k) = slice_get calls k

-- the place of a call's operation in the object
abbrev pub operation_place : Option AcceptedCall → ℕ
operation_place None = 0
operation_place (Some call) = call.op

-- an event, as paths see it: by the operation of its call
abbrev pub path_event : List AcceptedCall → TraceEvent → Event
path_event calls (Start n) = Began (record { number = n; operation = operation_place (call_at calls n) })
path_event calls (End n reply) = Ended (record { number = n; operation = operation_place (call_at calls n) })

-- what happened, as paths see it: the newest event first
abbrev pub path_trace : List AcceptedCall → List TraceEvent → List Event
path_trace calls trace = fold (λ past event. path_event calls event ∷ past) [] trace

-- the paths of the object
abbrev pub paths_of : Board → List Path
paths_of b = (object_of b.object).paths

-- what happened so far, as paths see it
abbrev pub past_of : Board → List Event
past_of b = path_trace b.calls b.trace

-- an operation may start now: every path of the object admits it
abbrev pub MayStartNow : Board → ℕ → Type 0
MayStartNow b op = MayStart (paths_of b) op (past_of b)

-- the operations of an object
abbrev pub bodies : Object → List Operation
bodies o = map (λ a. arc_value a) o.operations.items

-- a board without calls
abbrev pub opened : Object → List (List Stamp) → Board
opened object pins =
    record {
      object = object;
      calls = [];
      trace = [];
      history = [];
      waiting = [];
      running = [];
      gone = replicate most_sessions false;
      opening = pins;
      pins = pins;
    }

-- a call joins those that wait, with the next number
unfoldable pub joined : Board → AcceptedCall → Board
joined b call =
    record b {
      calls = b.calls ++ call ∷ [];
      waiting = b.waiting ++ (record { number = length b.calls + 1; call = call }) ∷ [];
    }

-- a call waits no more
unfoldable pub dismissed : Board → ℕ → Board
dismissed b n = record b { waiting = filter (λ w. not (w.number == n)) b.waiting }

-- no call of a session waits any more
unfoldable pub released : Board → ℕ → Board
released b session = record b { waiting = filter (λ w. not (w.call.session == session)) b.waiting }

-- the ticket of the running call at this place is taken
unfoldable pub taken_at : Board → ℕ → RunningCall → Board
taken_at b k r = record b { running = slice_set b.running k (record r { taken = true }) }

-- a session has left
unfoldable pub marked : Board → ℕ → Board
marked b session = record b { gone = slice_set b.gone (session - 1) true }

-- a waiting call starts, with the published pins of the parts that it reads
unfoldable pub started : Board → WaitingCall → Board
started b w = record b {
  trace = b.trace ++ Start w.number ∷ [];
  waiting = filter (λ x. not (x.number == w.number)) b.waiting;
  running = b.running ++ (record {
    number = w.number;
    call = w.call;
    pins = read_pins w.call.operation b.pins;
    taken = false;
  }) ∷ [];
}

-- the pins with new ones in place of those of their parts
abbrev pub published : List (List Stamp) → List PartPin → List (List Stamp)
published pins [] = pins
published pins (new ∷ news) = slice_set (published pins news) new.part new.pages

-- the entry of a running call that ended so
abbrev pub entry_of : RunningCall → Reply → List PartPin → Noted
entry_of r reply news = noted_of r.number r.call reply r.pins (if_done reply news)

-- a running call ends: its end stands in the trace and its entry in the history, and what it staged is
-- published, if it was done
unfoldable pub ended : Board → Noted → Board
ended b e = record b {
  trace = b.trace ++ End e.number e.reply ∷ [];
  history = b.history ++ e ∷ [];
  running = filter (λ r. not (r.number == e.number)) b.running;
  pins = published b.pins (if_done e.reply e.news);
}

-- of the calls that wait and may start this is the one with the least number
pub record IsNext (b : Board) (w : WaitingCall) : Type 0 where
  pub waits : Among w b.waiting
  pub may : MayStartNow b w.call.op
  pub least : (x : WaitingCall) → Among x b.waiting → MayStartNow b x.call.op → x.number < w.number → ⊥

-- no waiting call may start
abbrev pub Rests : Board → Type 0
Rests b = (w : WaitingCall) → Among w b.waiting → MayStartNow b w.call.op → ⊥

-- Admission: as long as some waiting call may start, the one with the least number starts.
pub data Admits : Board → Board → Type 0 where
  rests : {b : Board} → Rests b → Admits b b
  starts : {b after : Board} (w : WaitingCall) → IsNext b w → Admits (started b w) after → Admits b after
