-- What one step of an object does: the first waiting call that may start is started, done and ended, again and again,
-- until none may.
use Rattle.std.specs.Prelude.{List, [], ◌∷◌, ◌++◌}
use Rattle.value_core.specs.Contents.{Contents}
use Rattle.decl_core.specs.ObjectForm.{ObjectForm}
use Rattle.apply_core.specs.History.{IsReplyOn, leads_to}
use Rattle.word_core.specs.Events.{Called, began, ended, history_of, body_at}
use Rattle.live_core.specs.declared.call.Ran.{Ran}
use Rattle.live_core.specs.Bodies.{FailsForMemory}
use Rattle.live_core.specs.Hall.{Every, Told, MayBegin, Rests}

-- a call began and ended, and nothing between
abbrev pub with_ran : Told → Ran → Told
with_ran t r = record t { happened = ended r.call r.reply ∷ began r.call ∷ t.happened }

-- these calls, one after the other
abbrev pub with_all : Told → List Ran → Told
with_all t [] = t
with_all t (r ∷ rs) = with_all (with_ran t r) rs

-- the contents where what happened leads
abbrev pub contents_of : ObjectForm → Told → List Contents
contents_of o t = leads_to (history_of o t.happened) t.opening

-- the reply is that of the sequential object there
abbrev pub IsReplyHere : ObjectForm → Told → Ran → Type 0
IsReplyHere o t r = IsReplyOn r.reply (body_at o r.call.operation) r.call.arguments (contents_of o t)

-- the first of those that wait that may start: those before it may not
pub record IsFirst (o : ObjectForm) (t : Told) (front : List Called) (c : Called) : Type 0 where
  pub may : MayBegin o t c
  pub earlier : Every (λ d. MayBegin o t d → ⊥) front

-- These calls ran, in this order, and these are left waiting. Those that wait stand in the order of their numbers.
pub data Settles (o : ObjectForm) : Told → List Called → List Ran → List Called → Type 0 where
  rests : {t : Told} {waiting : List Called} → Rests o waiting t → Settles o t waiting [] waiting
  runs : {t : Told} {left : List Called} (front behind : List Called) (r : Ran) (more : List Ran) →
      IsFirst o t front r.call → IsReplyHere o t r → FailsForMemory r.reply →
      Settles o (with_ran t r) (front ++ behind) more left → Settles o t (front ++ r.call ∷ behind) (r ∷ more) left
