-- What happened to the calls of an object: with their sessions, operations and arguments, and how they ended.
use Rattle.std.specs.Prelude.{◌≡◌, ◌≢◌, ℕ, ◌⊎◌, List, [], ◌∷◌, ◌++◌, map, None, slice_index_or}
use Rattle.value_core.specs.declared.datum.Datum.{Datum}
use Rattle.path_tree.specs.Trace.{Call, Event, Start, End}
use Rattle.decl_core.specs.Form.{Body, nothing}
use Rattle.decl_core.specs.ObjectForm.{OperationForm, ObjectForm}
use Rattle.apply_core.specs.declared.reply.Reply.{Reply}
use Rattle.apply_core.specs.History as history

-- a call: its number, its session, the place of its operation in the object, from 0, and its arguments
pub record Called : Type 0 where
  pub number : ℕ
  pub session : ℕ
  pub operation : ℕ
  pub arguments : List Datum

-- a call began, or it ended with this reply
pub data Happened : Type 0 where
  began : Called → Happened
  ended : Called → Reply → Happened

-- what paths see of a call
abbrev pub call_of : Called → Call
call_of c = record { number = c.number; operation = c.operation }

abbrev pub event_of : Happened → Event
event_of (began c) = Start (call_of c)
event_of (ended c reply) = End (call_of c)

-- what paths see of all that happened, the newest first
abbrev pub trace_of : List Happened → List Event
trace_of past = map event_of past

-- what happened has the newest first: the call has begun, and no call of its number has ended since
abbrev pub IsRunning : Called → List Happened → Type 0
IsRunning call [] = ⊥
IsRunning call (began c ∷ past) = (c ≡ call) ⊎ IsRunning call past
IsRunning call (ended c reply ∷ past) = (c.number ≢ call.number) × IsRunning call past

-- the body of an operation
abbrev pub form_body : OperationForm → Body
form_body o = record { params = map (λ p. p.1) o.params; result = o.result; statements = o.statements }

-- the body of no operation
abbrev pub no_body : Body
no_body = record { params = []; result = None; statements = nothing }

-- the body of the operation at a place of the object
abbrev pub body_at : ObjectForm → ℕ → Body
body_at o place = slice_index_or (map form_body o.operations) place no_body

-- the end of a call, as histories have it
abbrev pub end_of : ObjectForm → Called → Reply → history.End
end_of o c reply = record { body = body_at o c.operation; arguments = c.arguments; reply = reply }

-- the history of what happened (the newest first): the ends of its calls, the oldest first
abbrev pub history_of : ObjectForm → List Happened → List history.End
history_of o [] = []
history_of o (began c ∷ past) = history_of o past
history_of o (ended c reply ∷ past) = history_of o past ++ end_of o c reply ∷ []
