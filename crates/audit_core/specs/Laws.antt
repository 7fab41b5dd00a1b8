-- Laws of audits.
use Rattle.std.specs.Prelude.{◌≡◌, ◌≢◌, ℕ, ◌<◌, List, [], ◌∷◌, All, length, map, Some}
use Rattle.path_tree.specs.Known.{place_of}
use Rattle.path_tree.specs.Trace.{IsFresh}
use Rattle.path_tree.specs.Satisfies.{SatisfiesAll}
use Rattle.value_core.specs.Datum.{IsDatum, elem_of}
use Rattle.value_core.specs.Contents.{Contents, kind_of, IsContents}
use Rattle.decl_core.specs.ObjectForm.{ObjectForm}
use Rattle.apply_core.specs.History.{IsLegal}
use Rattle.word_core.specs.Events.{Called, Happened, began, ended, trace_of, history_of, IsRunning, body_at}
use Rattle.word_core.specs.TraceLaws.{HasNames, IsReply}
use Rattle.word_core.specs.Text.{operation_name, trace_text, told_of}
use Rattle.audit_core.specs.Operations.{operation_names}
use Rattle.audit_core.specs.Tells.{IsCallNumber, IsSession}
use Rattle.audit_core.specs.declared.verdict.AuditVerdict.{AuditVerdict}
use Rattle.audit_core.specs.declared.verdict.AuditVerdict.TheVariants.{Memory}
use Rattle.audit_core.specs.Verdicts.{IsLegalTrace, IsVerdict}

-- a call within the limits, of an operation of the object that is the first of its name, with arguments that fit it
pub record IsCallFor (o : ObjectForm) (c : Called) : Type 0 where
  pub number : IsCallNumber c.number
  pub session : IsSession c.session
  pub there : c.operation < length o.operations
  pub first : place_of (operation_names o.operations) (operation_name o c.operation) ≡ Some c.operation
  pub fit : map elem_of c.arguments ≡ (body_at o c.operation).params
  pub known : All IsDatum c.arguments

-- what happened (the newest first) is of such calls: each began once, and each that ended was running
abbrev pub AreCallsFor : ObjectForm → List Happened → Type 0
AreCallsFor o [] = Unit {0}
AreCallsFor o (began c ∷ past) = IsCallFor o c × IsFresh c.number (trace_of past) × AreCallsFor o past
AreCallsFor o (ended c reply ∷ past) = IsReply reply × IsRunning c past × AreCallsFor o past

-- each part has its opening value, of its kind
pub record AreOpening (o : ObjectForm) (opening : List Contents) : Type 0 where
  pub kinds : map kind_of opening ≡ map (λ p. p.1) o.parts
  pub contents : All IsContents opening

-- the text of what happened is a legal trace, where it satisfies every path and its history is legal from the opening
abbrev pub TextIsLegal : Type 0
TextIsLegal =
    (o : ObjectForm) (opening : List Contents) (past : List Happened) → HasNames o → AreOpening o opening →
    AreCallsFor o past
    → SatisfiesAll o.paths (trace_of past) → IsLegal (history_of o past) opening
    → IsLegalTrace o (trace_text o opening (told_of past)) (length (history_of o past))

-- of the same bytes no two verdicts hold, but where memory was refused
abbrev pub OneVerdict : Type 0
OneVerdict = (o : ObjectForm) (bytes : List ℕ) (first second : AuditVerdict) → first ≢ Memory → second ≢ Memory
    → IsVerdict o bytes first → IsVerdict o bytes second → first ≡ second
