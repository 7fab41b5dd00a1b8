-- What the tables are after each event.
use Rattle.std.proofs.Common.{◌≡◌, ℕ, ◌+◌, Bool, true, false, not, ◌==◌, List, [], ◌∷◌, ◌++◌, length, refl}
use Rattle.std.specs.List.{filter}
use Rattle.std.specs.Prelude.{replicate, slice_set, ◌-◌}
use Rattle.decl_core.specs.declared.object.Object.{Object}
use Rattle.board_core.specs.declared.event.TraceEvent.{TraceEvent}
use Rattle.board_core.specs.declared.event.TraceEvent.TheVariants.{Start, End}
use Rattle.page_core.specs.ObjectCalls.{AcceptedCall, WaitingCall, RunningCall, Noted, read_pins}
use Rattle.device_core.specs.declared.hand.Stamp.{Stamp}
use Rattle.page_core.specs.Outcomes.{if_done}
use Rattle.board_core.specs.Keys.{resumed}
use Rattle.board_core.specs.Board.{Board, most_sessions, opened, joined, dismissed, released, taken_at, marked, started, ended, published}

pub started_is : (b : Board) (w : WaitingCall) (trace : List TraceEvent) (waiting : List WaitingCall) (running : List RunningCall)
    → trace ≡ b.trace ++ Start w.number ∷ [] → waiting ≡ filter (λ x. not (x.number == w.number)) b.waiting
    → running ≡ b.running ++ (record { number = w.number; call = w.call; pins = read_pins w.call.operation b.pins; taken = false }) ∷ []
    → let made : Board = record b { trace = trace; waiting = waiting; running = running } in made ≡ started b w
unfolding started
started_is b w trace waiting running e1 e2 e3 = rw (e1, e2, e3) refl

pub joined_is : (b : Board) (call : AcceptedCall) (calls : List AcceptedCall) (waiting : List WaitingCall) (trace : List TraceEvent) (history : List Noted) (running : List RunningCall)
    → calls ≡ b.calls ++ call ∷ [] → waiting ≡ b.waiting ++ (record { number = length b.calls + 1; call = call }) ∷ [] → trace ≡ b.trace → history ≡ b.history → running ≡ b.running
    → let made : Board = record b { calls = calls; waiting = waiting; trace = trace; history = history; running = running } in made ≡ joined b call
unfolding joined
joined_is b call calls waiting trace history running e1 e2 e3 e4 e5 = rw (e1, e2, e3, e4, e5) refl

pub dismissed_is : (b : Board) (n : ℕ) (waiting : List WaitingCall) → waiting ≡ filter (λ w. not (w.number == n)) b.waiting
    → let made : Board = record b { waiting = waiting } in made ≡ dismissed b n
unfolding dismissed
dismissed_is b n waiting e = rw e refl

pub ended_is : (b : Board) (e : Noted) (trace : List TraceEvent) (history : List Noted) (running : List RunningCall) (pins : List (List Stamp))
    → trace ≡ b.trace ++ End e.number e.reply ∷ [] → history ≡ b.history ++ e ∷ [] → running ≡ filter (λ r. not (r.number == e.number)) b.running → pins ≡ published b.pins (if_done e.reply e.news)
    → let made : Board = record b { trace = trace; history = history; running = running; pins = pins } in made ≡ ended b e
unfolding ended
ended_is b e trace history running pins e1 e2 e3 e4 = rw (e1, e2, e3, e4) refl

pub opened_is : {calls : List AcceptedCall} {trace : List TraceEvent} {history : List Noted} {waiting : List WaitingCall} {running : List RunningCall} {gone : List Bool} (object : Object) (pins : List (List Stamp))
    → calls ≡ [] → trace ≡ [] → history ≡ [] → waiting ≡ [] → running ≡ [] → gone ≡ replicate most_sessions false
    → let made : Board = record { object = object; calls = calls; trace = trace; history = history; waiting = waiting; running = running; gone = gone; opening = pins; pins = pins } in made ≡ opened object pins
opened_is object pins e1 e2 e3 e4 e5 e6 = rw (e1, e2, e3, e4, e5, e6) refl

pub marked_is : (b : Board) (session : ℕ) (gone : List Bool) → gone ≡ slice_set b.gone (session - 1) true → let made : Board = record b { gone = gone } in made ≡ marked b session
unfolding marked
marked_is b session gone e = rw e refl

pub resumed_is : (b : Board) (session : ℕ) (gone : List Bool) → gone ≡ slice_set b.gone (session - 1) false → let made : Board = record b { gone = gone } in made ≡ resumed b session
unfolding resumed
resumed_is b session gone e = rw e refl

pub released_is : (b : Board) (session : ℕ) (waiting : List WaitingCall) → waiting ≡ filter (λ w. not (w.call.session == session)) b.waiting
    → let made : Board = record b { waiting = waiting } in made ≡ released b session
unfolding released
released_is b session waiting e = rw e refl

pub taken_is : (b : Board) (k : ℕ) (r : RunningCall) (running : List RunningCall) → running ≡ slice_set b.running k (record r { taken = true }) → let made : Board = record b { running = running } in made ≡ taken_at b k r
unfolding taken_at
taken_is b k r running e = rw e refl

-- tables that are the same make the same board
pub same_is : (b : Board) (calls : List AcceptedCall) (waiting : List WaitingCall) (trace : List TraceEvent) (history : List Noted) (running : List RunningCall)
    → calls ≡ b.calls → waiting ≡ b.waiting → trace ≡ b.trace → history ≡ b.history → running ≡ b.running
    → let made : Board = record b { calls = calls; waiting = waiting; trace = trace; history = history; running = running } in made ≡ b
same_is b calls waiting trace history running e1 e2 e3 e4 e5 = rw (e1, e2, e3, e4, e5) refl
