-- What an audit answers.
use Rattle.std.specs.Prelude.{◌≡◌, ℕ, ◌+◌, ◌⊎◌, List, ◌∷◌, ◌++◌, length}
use Rattle.value_core.specs.Contents.{Contents}
use Rattle.std.specs.Str.Lines.{lines}
use Rattle.path_tree.specs.Satisfies.{SatisfiesAll}
use Rattle.decl_core.specs.ObjectForm.{ObjectForm}
use Rattle.apply_core.specs.declared.reply.Reply.{Reply}
use Rattle.apply_core.specs.History.{IsLegal, IsReplyOn, leads_to}
use Rattle.word_core.specs.Events.{Called, began, ended, trace_of, history_of, IsRunning, body_at}
use Rattle.audit_core.specs.Said.{Says, an_end}
use Rattle.audit_core.specs.Counting.{RefusesFirst}
use Rattle.audit_core.specs.Tells.{Heard, nothing_heard, IsOpened, IsCallNumber, Tells, Tell}
use Rattle.audit_core.specs.declared.verdict.AuditFault.{AuditFault}
use Rattle.audit_core.specs.declared.verdict.AuditFault.TheVariants as faults
use Rattle.audit_core.specs.declared.verdict.AuditVerdict.{AuditVerdict}
use Rattle.audit_core.specs.declared.verdict.AuditVerdict.TheVariants as verdicts

-- what happened satisfies every path, and its history is legal from the opening contents
pub record IsSound (o : ObjectForm) (heard : Heard) : Type 0 where
  pub satisfied : SatisfiesAll o.paths (trace_of heard.past)
  pub legal : IsLegal (history_of o heard.past) heard.opening

-- the contents after all that happened
abbrev pub contents_of : ObjectForm → Heard → List Contents
contents_of o heard = leads_to (history_of o heard.past) heard.opening

-- an end of a call that does not run
pub record IsStranger (o : ObjectForm) (heard : Heard) (line : List ℕ) : Type 0 where
  pub number : ℕ
  pub reply : Reply
  pub opened : IsOpened o heard
  pub says : Says line (an_end number reply)
  pub is : IsCallNumber number
  pub none : (call : Called) → call.number ≡ number → IsRunning call heard.past → ⊥

-- a start that a path refuses, and no path before it; paths count from 1
pub record IsBreach (o : ObjectForm) (heard : Heard) (line : List ℕ) (number : ℕ) : Type 0 where
  pub call : Called
  pub told : Tells o heard line (record heard { past = began call ∷ heard.past })
  pub place : ℕ
  pub counted : number ≡ place + 1
  pub first : RefusesFirst o.paths call.operation (trace_of heard.past) place

-- an end whose reply is not the sequential object's
pub record IsWrong (o : ObjectForm) (heard : Heard) (line : List ℕ) : Type 0 where
  pub call : Called
  pub reply : Reply
  pub told : Tells o heard line (record heard { past = ended call reply ∷ heard.past })
  pub wrong : IsReplyOn reply (body_at o call.operation) call.arguments (contents_of o heard) → ⊥

-- a line has no place behind those before it
pub record IsBad (o : ObjectForm) (heard : Heard) (line : List ℕ) : Type 0 where
  pub untold : (after : Heard) → Tells o heard line after → ⊥
  pub unended : IsStranger o heard line → ⊥

-- the fault of a line behind lines that told this
abbrev pub IsFault : ObjectForm → Heard → List ℕ → AuditFault → Type 0
IsFault o heard line faults.Bad = IsBad o heard line
IsFault o heard line (faults.Breaks path) = IsBreach o heard line path
IsFault o heard line faults.Wrong = IsWrong o heard line
IsFault o heard line faults.Stranger = IsStranger o heard line

-- The bytes are the lines of a trace that satisfies every path and whose history is legal, with so many ends.
pub record IsLegalTrace (o : ObjectForm) (bytes : List ℕ) (entries : ℕ) : Type 0 where
  pub heard : Heard
  pub told : Tell o nothing_heard (lines bytes) heard
  pub opened : IsOpened o heard
  pub sound : IsSound o heard
  pub counted : entries ≡ length (history_of o heard.past)

-- The line of this number is the first with a fault: those before it are the front of such a trace.
pub record IsFirstFault (o : ObjectForm) (bytes : List ℕ) (number : ℕ) (fault : AuditFault) : Type 0 where
  pub before : List (List ℕ)
  pub line : List ℕ
  pub after : List (List ℕ)
  pub cut : lines bytes ≡ before ++ line ∷ after
  pub counted : number ≡ length before + 1
  pub heard : Heard
  pub told : Tell o nothing_heard before heard
  pub sound : IsSound o heard
  pub faulty : IsFault o heard line fault

-- the lines end before that of the last part: the line behind them is missing
pub record EndsEarly (o : ObjectForm) (bytes : List ℕ) (number : ℕ) : Type 0 where
  pub heard : Heard
  pub told : Tell o nothing_heard (lines bytes) heard
  pub unopened : IsOpened o heard → ⊥
  pub counted : number ≡ length (lines bytes) + 1

-- what is answered of a line with this fault
abbrev pub verdict_for : ℕ → AuditFault → AuditVerdict
verdict_for number faults.Bad = verdicts.BadLine number
verdict_for number (faults.Breaks path) = verdicts.BreaksPath number path
verdict_for number faults.Wrong = verdicts.WrongReply number
verdict_for number faults.Stranger = verdicts.NotRunning number

-- what an audit answers; want of memory says nothing
abbrev pub IsVerdict : ObjectForm → List ℕ → AuditVerdict → Type 0
IsVerdict o bytes (verdicts.Legal entries) = IsLegalTrace o bytes entries
IsVerdict o bytes (verdicts.BadLine number) = IsFirstFault o bytes number faults.Bad ⊎ EndsEarly o bytes number
IsVerdict o bytes (verdicts.BreaksPath number path) = IsFirstFault o bytes number (faults.Breaks path)
IsVerdict o bytes (verdicts.WrongReply number) = IsFirstFault o bytes number faults.Wrong
IsVerdict o bytes (verdicts.NotRunning number) = IsFirstFault o bytes number faults.Stranger
IsVerdict o bytes verdicts.Memory = Unit {0}
