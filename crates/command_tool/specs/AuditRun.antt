-- What `audit` writes over a source and the text of a trace.
use Rattle.std.specs.Prelude.{◌≡◌, ℕ, List, [], ◌++◌, codes, decimal}
use Rattle.decl_core.specs.ObjectForm.{ObjectForm}
use Rattle.decl_core.specs.declared.object.Object.{Object}
use Rattle.decl_core.specs.ObjectMap.{object_of}
use Rattle.value_core.specs.Reply.{reply}
use Rattle.check_core.specs.Named.{NamesObject}
use Rattle.check_core.specs.Opening.{IsReady, IsTold}
use Rattle.audit_core.specs.Verdicts.{IsVerdict, IsLegalTrace}
use Rattle.audit_core.specs.declared.verdict.AuditVerdict.{AuditVerdict}
use Rattle.audit_core.specs.declared.verdict.AuditVerdict.TheVariants as verdicts

-- 0 where the trace is legal, else 1
abbrev pub audit_status : AuditVerdict → ℕ
audit_status (verdicts.Legal entries) = 0
audit_status (verdicts.BadLine line) = 1
audit_status (verdicts.BreaksPath line path) = 1
audit_status (verdicts.WrongReply line) = 1
audit_status (verdicts.NotRunning line) = 1
audit_status verdicts.Memory = 1

-- line N
abbrev pub line_number : ℕ → List ℕ
line_number line = codes "line " ++ decimal line

-- the line of a verdict
abbrev pub verdict_line : AuditVerdict → List ℕ
verdict_line (verdicts.Legal entries) = reply (codes "legal ") (decimal entries)
verdict_line (verdicts.BadLine line) = line_number line ++ codes " bad\n"
verdict_line (verdicts.BreaksPath line path) = line_number line ++ reply (codes " breaks path ") (decimal path)
verdict_line (verdicts.WrongReply line) = line_number line ++ codes " wrong reply\n"
verdict_line (verdicts.NotRunning line) = line_number line ++ codes " not running\n"
verdict_line verdicts.Memory = []

-- The verdict on a text, which is no want of memory: it is so, and a legal trace is told as legal.
pub record IsAudited (o : ObjectForm) (text : List ℕ) (verdict : AuditVerdict) : Type 0 where
  pub is : IsVerdict o text verdict
  pub legal : (entries : ℕ) → IsLegalTrace o text entries → verdict ≡ verdicts.Legal entries
  pub known : verdict ≡ verdicts.Memory → ⊥

-- the exit status, and all that is written
pub data IsAuditRun (source text : List ℕ) : ℕ → List ℕ → Type 0 where
  -- the first line names no object
  unnamed : ((name : List ℕ) → NamesObject text name → ⊥) → IsAuditRun source text 1 (codes "line 1 bad\n")
  -- there is nothing to audit it by, and one line says why
  lacking : {name line : List ℕ} → NamesObject text name → IsTold source text line → IsAuditRun source text 1 line
  -- the verdict by the object that the first line names
  audited : (o : Object) (verdict : AuditVerdict) → IsReady source text (object_of o) → IsAudited (object_of o) text verdict
      → IsAuditRun source text (audit_status verdict) (verdict_line verdict)
