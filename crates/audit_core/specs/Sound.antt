-- Which epochs are sound, and which line of one that is not has a fault.
use Rattle.std.specs.Prelude.{◌≡◌, ℕ, ◌+◌, ◌⊎◌, List, [], ◌∷◌, ◌++◌, length, Option, Some, None}
use Rattle.path_tree.specs.Trace.{Event, Start}
use Rattle.path_tree.specs.Satisfies.{SatisfiesAll}
use Rattle.decl_core.specs.ObjectForm.{ObjectForm}
use Rattle.apply_core.specs.declared.reply.Reply.{Reply}
use Rattle.apply_core.specs.History.{IsLegal, IsReplyOn}
use Rattle.word_core.specs.Events.{Called, call_of, history_of, body_at}
use Rattle.audit_core.specs.Counting.{RefusesFirst}
use Rattle.audit_core.specs.declared.verdict.AuditFault.{AuditFault}
use Rattle.audit_core.specs.declared.verdict.AuditFault.TheVariants as faults
use Rattle.audit_core.specs.EpochSaid.{Says, Asked, a_start, an_end}
use Rattle.audit_core.specs.Steps.{Begun, Heard, ran, nothing_heard, happened_of, trace_by, contents_by}
use Rattle.audit_core.specs.EpochTells.{Tells, Tell}

-- what paths see where a call may run
abbrev pub with_running : Option Called → List Event → List Event
with_running None t = t
with_running (Some call) t = Start (call_of call) ∷ t

-- what happened satisfies every path at each line, and its history is legal from the opening contents
pub record IsSound (o : ObjectForm) (e : Begun) (heard : Heard) : Type 0 where
  pub satisfied : SatisfiesAll o.paths (with_running heard.running (trace_by e heard.steps))
  pub legal : IsLegal (history_of o (happened_of heard.steps)) e.opening

-- all of these lines, or all but the last one, which tells that a call started
abbrev pub IsCut : List (List ℕ) → List (List ℕ) → Type 0
IsCut all kept =
    (all ≡ kept) ⊎ ((line : List ℕ) × (asked : Asked) × Says line (a_start asked) × (all ≡ kept ++ line ∷ []))

-- lines that were told and are sound, up to the last one at which no call runs
pub record IsPlayed (o : ObjectForm) (e : Begun) (all : List (List ℕ)) (heard : Heard) : Type 0 where
  pub kept : List (List ℕ)
  pub cut : IsCut all kept
  pub told : Tell o e nothing_heard kept heard
  pub rests : heard.running ≡ None
  pub sound : IsSound o e heard

-- an end of a call that does not run
pub record IsStranger (o : ObjectForm) (e : Begun) (heard : Heard) (line : List ℕ) : Type 0 where
  pub number : ℕ
  pub reply : Reply
  pub says : Says line (an_end number reply)
  pub none : (call : Called) → call.number ≡ number → heard.running ≡ Some call → ⊥

-- a start that a path refuses, and no path before it; paths count from 1
pub record IsBreach (o : ObjectForm) (e : Begun) (heard : Heard) (line : List ℕ) (number : ℕ) : Type 0 where
  pub call : Called
  pub told : Tells o e heard line (record heard { running = Some call })
  pub place : ℕ
  pub counted : number ≡ place + 1
  pub first : RefusesFirst o.paths call.operation (trace_by e heard.steps) place

-- an end whose reply is not the sequential object's
pub record IsWrong (o : ObjectForm) (e : Begun) (heard : Heard) (line : List ℕ) : Type 0 where
  pub call : Called
  pub reply : Reply
  pub told : Tells o e heard line (record { steps = ran call reply ∷ heard.steps; running = None })
  pub wrong : IsReplyOn reply (body_at o call.operation) call.arguments (contents_by o e heard.steps) → ⊥

-- a line has no place behind those before it
pub record IsBad (o : ObjectForm) (e : Begun) (heard : Heard) (line : List ℕ) : Type 0 where
  pub untold : (after : Heard) → Tells o e heard line after → ⊥
  pub unended : IsStranger o e heard line → ⊥

-- the fault of a line behind lines that told this
abbrev pub IsFault : ObjectForm → Begun → Heard → List ℕ → AuditFault → Type 0
IsFault o e heard line faults.Bad = IsBad o e heard line
IsFault o e heard line (faults.Breaks path) = IsBreach o e heard line path
IsFault o e heard line faults.Wrong = IsWrong o e heard line
IsFault o e heard line faults.Stranger = IsStranger o e heard line

-- The line of this number, of those behind a front, is the first with a fault: those before it are sound.
pub record IsFirstFault (o : ObjectForm) (e : Begun) (all : List (List ℕ)) (number : ℕ) (fault : AuditFault) : Type 0 where
  pub before : List (List ℕ)
  pub line : List ℕ
  pub after : List (List ℕ)
  pub cut : all ≡ before ++ line ∷ after
  pub counted : number ≡ length before + 1
  pub heard : Heard
  pub told : Tell o e nothing_heard before heard
  pub sound : IsSound o e heard
  pub faulty : IsFault o e heard line fault
