-- What is said of the text of a trace is what an audit writes.
use Rattle.std.proofs.Common.{◌≡◌, ◌≤◌, ◌⊎◌, arith, inl, inr, ℕ, List, ◌++◌, refl, sym, ap, subst, ◌∙◌, append_assoc}
use Rattle.std.specs.Prelude.{codes}
use Rattle.decl_core.specs.declared.object.Object.{Object}
use Rattle.decl_core.specs.ObjectMap.{object_of}
use Rattle.check_core.specs.Named.{NamesObject}
use Rattle.check_core.specs.Opening.{IsReady, IsTold}
use Rattle.audit_core.specs.Verdicts.{IsVerdict, IsLegalTrace}
use Rattle.audit_core.specs.declared.verdict.AuditVerdict.{AuditVerdict}
use Rattle.audit_core.specs.declared.verdict.AuditVerdict.TheVariants as verdicts
use Rattle.command_tool.specs.AuditRun.{audit_status, verdict_line, IsAudited, IsAuditRun, unnamed, lacking, audited}
use Rattle.command_tool.specs.Laws.{HasNoLine, NoLineOfTrace}
use Rattle.command_tool.proofs.Lineless.{names_none}

-- what was added in two parts was added
pub joined : (old a b mid new : List ℕ) → mid ≡ old ++ a → new ≡ mid ++ b → new ≡ old ++ (a ++ b)
joined old a b mid new first second = second ∙ ap (λ r. r ++ b) first ∙ append_assoc old a b

-- no object is named
pub unnamed_run : (source text written : List ℕ) (status : ℕ) → ((name : List ℕ) → NamesObject text name → ⊥) → status ≡ 1 → written ≡ codes "line 1 bad\n"
    → IsAuditRun source text status written
unnamed_run source text written status none one is =
    subst (λ s. IsAuditRun source text s written) (sym one) (subst (IsAuditRun source text 1) (sym is) (unnamed none))

-- there is nothing to audit it by
pub lacking_run : (source text name line written : List ℕ) (status : ℕ) → NamesObject text name → IsTold source text line → status ≡ 1 → written ≡ line
    → IsAuditRun source text status written
lacking_run source text name line written status named told one is =
    subst (λ s. IsAuditRun source text s written) (sym one) (subst (IsAuditRun source text 1) (sym is) (lacking named told))

-- a legal trace is told as legal where no memory was wanted
told_legal : (verdict : AuditVerdict) (entries : ℕ) → (verdict ≡ verdicts.Memory → ⊥) → (verdict ≡ verdicts.Legal entries) ⊎ (verdict ≡ verdicts.Memory) → verdict ≡ verdicts.Legal entries
told_legal verdict entries known (inl is) = is
told_legal verdict entries known (inr want) = absurd (known want)

-- there is a verdict
pub audited_run : (source text written : List ℕ) (o : Object) (verdict : AuditVerdict) (status : ℕ) → IsReady source text (object_of o) → IsVerdict (object_of o) text verdict
    → ((entries : ℕ) → IsLegalTrace (object_of o) text entries → (verdict ≡ verdicts.Legal entries) ⊎ (verdict ≡ verdicts.Memory))
    → (verdict ≡ verdicts.Memory → ⊥) → status ≡ audit_status verdict → written ≡ verdict_line verdict → IsAuditRun source text status written
audited_run source text written o verdict status ready is exact known s w =
    let told : IsAudited (object_of o) text verdict = record { is = is; legal = λ entries trace. told_legal verdict entries known (exact entries trace); known = known } in
    subst (λ n. IsAuditRun source text n written) (sym s) (subst (IsAuditRun source text (audit_status verdict)) (sym w) (audited o verdict ready told))

-- the status is at most 1
verdict_small : (verdict : AuditVerdict) → audit_status verdict ≤ 1
verdict_small (verdicts.Legal entries) = omega arith
verdict_small (verdicts.BadLine line) = omega arith
verdict_small (verdicts.BreaksPath line path) = omega arith
verdict_small (verdicts.WrongReply line) = omega arith
verdict_small (verdicts.NotRunning line) = omega arith
verdict_small verdicts.Memory = omega arith

pub run_small : (source text : List ℕ) (status : ℕ) (written : List ℕ) → IsAuditRun source text status written → status ≤ 1
run_small source text status written (unnamed none) = omega arith
run_small source text status written (lacking named told) = omega arith
run_small source text status written (audited o verdict ready is) = verdict_small verdict

-- a text without a line is told as one whose first line is bad
bad_first : (source text : List ℕ) (status : ℕ) (written : List ℕ) → HasNoLine text → IsAuditRun source text status written → (status ≡ 1) × (written ≡ codes "line 1 bad\n")
bad_first source text status written none (unnamed un) = (refl, refl)
bad_first source text status written none (lacking named is) = absurd (names_none text _ none named)
bad_first source text status written none (audited o verdict ready is) = absurd (names_none text ready.name none ready.named)

pub no_line_of_trace : NoLineOfTrace
no_line_of_trace source text status written none =
    (bad_first source text status written none, λ is. unnamed_run source text written status (λ name named. names_none text name none named) is.0 is.1)
