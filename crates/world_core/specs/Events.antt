-- What may happen in a world.
use Rattle.std.specs.Prelude.{ℕ, Bool}
use Rattle.board_core.specs.Answers.{Asked}
use Rattle.world_core.specs.declared.event.Event.{Event}
use Rattle.world_core.specs.declared.event.Event.TheVariants.{Call, CallKey, Step, Finish, Cancel, Drop, Resume, Show}

-- a session calls, or does so under a key, a run makes a step that works or not, a call finishes or is cancelled, a
-- session leaves or is back, the contents are asked for
pub data WorldEvent : Type 0 where
  call : Asked → WorldEvent
  call_key : Asked → (key : ℕ) → WorldEvent
  step : (number : ℕ) (works : Bool) → WorldEvent
  finish : (number : ℕ) → WorldEvent
  cancel : (number : ℕ) → WorldEvent
  leave : (session : ℕ) → WorldEvent
  resume : (session : ℕ) → WorldEvent
  look : WorldEvent

abbrev pub event_of : Event → WorldEvent
event_of (Call session op args) = call (record { session = session; name = op.now; arguments = args.now })
event_of (CallKey session key op args) =
    call_key (record { session = session; name = op.now; arguments = args.now }) key
event_of (Step number works) = step number works
event_of (Finish number) = finish number
event_of (Cancel number) = cancel number
event_of (Drop session) = leave session
event_of (Resume session) = resume session
event_of Show = look
