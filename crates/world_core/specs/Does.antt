-- What a line of a script does to a world, and the lines that answer it.
use Rattle.std.specs.Prelude.{◌≡◌, ◌≢◌, ℕ, ◌+◌, ◌-◌, Bool, true, false, List, ◌++◌, length, drop, codes}
use Rattle.std.specs.List.{flat_map}
use Rattle.value_core.specs.declared.datum.Datum.{Datum}
use Rattle.decl_core.specs.declared.object.Object.{Object}
use Rattle.decl_core.specs.ObjectMap.{object_of}
use Rattle.apply_core.specs.declared.need.Need.{Need}
use Rattle.run_core.specs.declared.step.StepAnswer.{StepAnswer}
use Rattle.run_core.specs.declared.step.StepAnswer.TheVariants.{Went, Failed, AlreadyDone}
use Rattle.word_core.specs.Text.{trace_text}
use Rattle.board_core.specs.declared.event.TraceEvent.{TraceEvent}
use Rattle.board_core.specs.Sound.{event_number, IsSound}
use Rattle.guest_core.specs.declared.answer.SubmitFault.TheVariants as faults
use Rattle.guest_core.specs.declared.answer.KeyedFault.TheVariants as keyed
use Rattle.board_core.specs.declared.answer.CallState.{CallState}
use Rattle.board_core.specs.declared.answer.CallState.TheVariants as states
use Rattle.guest_core.specs.declared.answer.Cancelled.{Cancelled}
use Rattle.guest_core.specs.declared.answer.Cancelled.TheVariants as cancels
use Rattle.board_core.specs.Answers.{runs_in}
use Rattle.desk_core.specs.Told.{lines_told}
use Rattle.world_core.specs.declared.event.EventRefusal.{EventRefusal}
use Rattle.world_core.specs.declared.event.EventRefusal.TheVariants.{Submit, Keyed, NotRunning, NoStep, Memory}
use Rattle.world_core.specs.declared.event.WorldAnswer.{WorldAnswer}
use Rattle.world_core.specs.declared.event.WorldAnswer.TheVariants.{Number, Stepped, Ended, Cancel, Dropped, Resumed, Kept}
use Rattle.world_core.specs.declared.event.WorldAnswer.TheVariants.{Shown, Refused}
use Rattle.world_core.specs.declared.event.EventAnswer.{EventAnswer}
use Rattle.world_core.specs.Names.{refusal_name}
use Rattle.world_core.specs.Events.{WorldEvent, call, call_key, step, finish, cancel, leave, resume, look}
use Rattle.world_core.specs.Scene.{Scene}
use Rattle.world_core.specs.Answers.{Answers}
use Rattle.world_core.specs.Headline.{IsSequential}
use Rattle.word_core.specs.Said.{Said, a_call, a_keyed_call, a_do, a_step, all_steps, a_finish, a_cancel, a_drop}
use Rattle.word_core.specs.Said.{a_resume, a_show, a_trace}
use Rattle.word_core.specs.Answers.{called_line, refused_line, stepped_line, all_stepped_line, finished_line}
use Rattle.word_core.specs.Answers.{cancelled_line, dropped_line, resumed_line, kept_line, repeated_line}
use Rattle.word_core.specs.Answers.{started_line, shown_lines}

-- a step that failed, for whatever cause, is told as failed
abbrev pub has_gone : StepAnswer → Bool
has_gone Went = true
has_gone (Failed fault) = false
has_gone AlreadyDone = false

-- what became of a cancel
abbrev pub cancel_name : Cancelled → List ℕ
cancel_name cancels.Cancelled = codes "Cancelled"
cancel_name cancels.Running = codes "Running"
cancel_name cancels.Ended = codes "Ended"
cancel_name cancels.Unknown = codes "Unknown"

-- what became of the call of this number, which was made before under the same key
abbrev pub repeat_line : ℕ → CallState → List ℕ
repeat_line number states.Waiting = kept_line (codes "waiting") number
repeat_line number states.Running = kept_line (codes "running") number
repeat_line number states.Cancelled = kept_line (codes "cancelled") number
repeat_line number (states.Ended reply) = repeated_line number reply

-- the lines that tell an answer to an event of this call or session, over this object
abbrev pub answer_lines : Object → ℕ → WorldAnswer → List ℕ
answer_lines o number (Number given) = called_line given
answer_lines o number (Stepped need went) = stepped_line number need (has_gone went)
answer_lines o number (Ended reply) = finished_line number reply
answer_lines o number (Cancel became) = cancelled_line number (cancel_name became)
answer_lines o number Dropped = dropped_line number
answer_lines o number Resumed = resumed_line number
answer_lines o number (Kept made) = repeat_line made.number made.state
answer_lines o number (Shown values) = shown_lines (object_of o).parts values.items
answer_lines o number (Refused refusal) = refused_line (refusal_name refusal)

-- a refusal that is no want of memory
pub record IsNoWant (refusal : EventRefusal) : Type 0 where
  pub event : refusal ≢ Memory
  pub submit : refusal ≢ Submit faults.Memory
  pub keyed : refusal ≢ Keyed (keyed.Submit faults.Memory)

-- an answer is told, and a want of memory is not
abbrev pub IsTold : WorldAnswer → Type 0
IsTold answer = (refusal : EventRefusal) → answer ≡ Refused refusal → IsNoWant refusal

-- `started N` for each of the last events of a trace
abbrev pub started_lines : ℕ → List TraceEvent → List ℕ
started_lines starts trace = flat_map (λ e. started_line (event_number e)) (drop (length trace - starts) trace)

-- the lines that tell the answer to an event of this call or session, which left this world
abbrev pub event_lines : Scene → ℕ → EventAnswer → List ℕ
event_lines new number a = answer_lines new.board.object number a.answer ++ started_lines a.starts new.board.trace

-- the event that a line says, and the call or the session that it speaks of; a call has no number yet
pub data IsEvent : Said → WorldEvent → ℕ → Type 0 where
  calls : {session : ℕ} {name : List ℕ} {arguments : List Datum} →
      IsEvent (a_call session name arguments) (call (record {
        session = session;
        name = name;
        arguments = arguments;
      })) 0
  calls_by : {session key : ℕ} {name : List ℕ} {arguments : List Datum} →
      IsEvent (a_keyed_call session key name arguments) (call_key (record
      { session = session; name = name; arguments = arguments }) key) 0
  steps : {number : ℕ} {works : Bool} → IsEvent (a_step number works) (step number works) number
  finishes : {number : ℕ} → IsEvent (a_finish number) (finish number) number
  cancels_it : {number : ℕ} → IsEvent (a_cancel number) (cancel number) number
  leaves : {session : ℕ} → IsEvent (a_drop session) (leave session) session
  is_back : {session : ℕ} → IsEvent (a_resume session) (resume session) session
  looks : IsEvent a_show look 0

-- an event of this call or session happens: its answer, and a line for each call that it started
pub data Happens (event : WorldEvent) (number : ℕ) (old : Scene) : List ℕ → Scene → Type 0 where
  happens : {new : Scene} (a : EventAnswer) → Answers old event a new → IsTold a.answer →
      Happens event number old (event_lines new number a) new

-- a step of a call that is to work is made
pub record IsStep (number : ℕ) (old new : Scene) : Type 0 where
  pub a : EventAnswer
  pub answers : Answers old (step number true) a new
  pub need : Need
  pub went : StepAnswer
  pub stepped : a.answer ≡ Stepped need went

-- so many steps of a call that are to work lead from a world to a world
pub data StepsMade (number : ℕ) (first : Scene) : ℕ → Scene → Type 0 where
  none_yet : StepsMade number first 0 first
  one_more : {count : ℕ} {mid last : Scene} → StepsMade number first count mid → IsStep number mid last →
      StepsMade number first (count + 1) last

-- the run of a call has no step to make
pub record IsOver (number : ℕ) (old new : Scene) : Type 0 where
  pub a : EventAnswer
  pub answers : Answers old (step number true) a new
  pub refused : a.answer ≡ Refused NoStep

-- so many steps, and then the run has no step to make
abbrev pub StepsOn : ℕ → Scene → ℕ → Scene → Type 0
StepsOn number first count last = (mid : Scene) × StepsMade number first count mid × IsOver number mid last

-- what holds of a world between events: its history is sequential, and its board is sound
pub record IsKept (w : Scene) : Type 0 where
  pub sequential : IsSequential w
  pub sound : IsSound w.board

-- the number that the next call gets
abbrev pub next_number : Scene → ℕ
next_number w = length w.board.calls + 1

-- a session calls an operation, by its name, with arguments
abbrev pub call_of : ℕ → List ℕ → List Datum → WorldEvent
call_of session name arguments = call (record { session = session; name = name; arguments = arguments })

-- what a line that says this does to a world: the lines that answer it, and the world that it leaves
pub data Does : Said → Scene → List ℕ → Scene → Type 0 where
  one_event : {said : Said} {event : WorldEvent} {number : ℕ} {old new : Scene} {text : List ℕ} →
      IsEvent said event number → Happens event number old text new → Does said old text new
  -- steps until the run is done
  all_stepped : {number : ℕ} {old new : Scene} (count : ℕ) → StepsOn number old count new →
      Does (all_steps number) old (all_stepped_line number count) new
  not_stepped : {number : ℕ} {old : Scene} → runs_in old.board number ≡ false →
      Does (all_steps number) old (refused_line (refusal_name NotRunning)) old
  -- A call that starts at once makes its steps until its run is done, and finishes: it is answered what the lines
  -- `call`, `steps` and `finish` are.
  done_at_once : {session number count : ℕ} {name : List ℕ} {arguments : List Datum} {old mid far new : Scene}
      {first last : List ℕ} → Happens (call_of session name arguments) 0 old first mid → IsKept mid →
      number ≡ next_number old → runs_in mid.board number ≡ true
      → StepsOn number mid count far → Happens (finish number) number far last new →
      Does (a_do session name arguments) old (first ++ all_stepped_line number count ++ last) new
  -- one that waits, or is refused, is answered what the line `call` is, and nothing else happens
  only_called : {session : ℕ} {name : List ℕ} {arguments : List Datum} {old new : Scene} {text : List ℕ} →
      Happens (call_of session name arguments) 0 old text new → runs_in new.board (next_number old) ≡ false →
      Does (a_do session name arguments) old text new
  -- the trace, with the opening values
  traced : {old : Scene} → Does a_trace old (trace_text (object_of old.board.object) old.opening (lines_told old.board))
      old
