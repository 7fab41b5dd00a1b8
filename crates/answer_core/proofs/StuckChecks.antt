-- A check of the front of a text that is asked what can get stuck is one of the text.
use Rattle.std.proofs.Common.{◌≡◌, ℕ, ◌<◌, Bool, inl, inr, List, length, take, subst, sym, arith}
use Rattle.std.specs.Prelude.{Option, Some, None, IfSome, IfOk, IsErrOf, Result, Ok, Err}
use Rattle.std.proofs.lemmas.Bool.{cases_lt}
use Rattle.std.proofs.lemmas.List.{take_all, length-take}
use Rattle.check_core.specs.StuckReport.{IsStuckCheck, counted, faulty}
use Rattle.check_core.specs.declared.report.CheckEnd.{CheckEnd}
use Rattle.answer_core.specs.declared.failure.ToolFailure.{ToolFailure}
use Rattle.answer_core.specs.declared.failure.ToolFailure.TheVariants as failures
use Rattle.answer_core.specs.Status.{stuck_status}

-- all texts that are too long are told the same
too_long : (source text : List ℕ) {end : CheckEnd} {lost : Bool} {written : List ℕ} → 65536 < length source → 65536 < length text → IsStuckCheck source end lost written → IsStuckCheck text end lost written
too_long source text long also (counted are reported) = absurd (omega (arith, are.short, long))
too_long source text long also (faulty told) = faulty (record {
  not_memory = told.not_memory;
  no_objects = λ objects are. absurd (omega (arith, are.short, also));
  too_long = λ h. told.too_long long;
  lexical = λ first is short. absurd (omega (arith, short, also));
})

long_front : (text : List ℕ) → 65536 < length text → 65536 < length (take 65537 text)
long_front text long = omega (arith, length-take 65537 text, long)

front_checked : (text : List ℕ) (end : CheckEnd) (lost : Bool) (written : List ℕ) → IsStuckCheck (take 65537 text) end lost written → IsStuckCheck text end lost written
front_checked text end lost written check = elim (cases_lt 65536 (length text)) [
  | inl long ↦ too_long (take 65537 text) text (long_front text long) long check
  | inr short ↦ subst (λ s. IsStuckCheck s end lost written) (take_all 65537 text (omega (arith, short))) check
]

-- what a check of the front of a known text shows
pub known_checked : (known : Option (List ℕ)) (source : List ℕ) (end : CheckEnd) (lost : Bool) (written : List ℕ) (P : List ℕ → Type 0)
    → IfSome known (λ text. source ≡ take 65537 text) → IsStuckCheck source end lost written → ((text : List ℕ) → IsStuckCheck text end lost written → P text) → IfSome known P
known_checked None source end lost written P is check all = tt
known_checked (Some text) source end lost written P is check all =
    all text (front_checked text end lost written (subst (λ s. IsStuckCheck s end lost written) is check))

-- a status that fits what was written of the known text
abbrev pub EndedOn : Option (List ℕ) → (List ℕ → Type 0) → Result ℕ ToolFailure → Type 0
EndedOn known Wrote result = IfOk result (λ status. IfSome known (λ text. (end : CheckEnd) × (lost : Bool) × (written : List ℕ) × Wrote written × IsStuckCheck text end lost written × (status ≡ stuck_status end lost)))

-- a write fault leaves a front of a check of the known text
abbrev pub CutOn : Option (List ℕ) → (List ℕ → Type 0) → Result ℕ ToolFailure → Type 0
CutOn known Wrote result = IsErrOf result failures.WriteFault → IfSome known (λ text. (end : CheckEnd) × (lost : Bool) × (whole : List ℕ) × (count : ℕ) × IsStuckCheck text end lost whole × Wrote (take count whole))

ended_of : (known : Option (List ℕ)) (source : List ℕ) (Wrote : List ℕ → Type 0) (ended : Result ℕ ToolFailure) → IfSome known (λ text. source ≡ take 65537 text)
    → IfOk ended (λ status. (end : CheckEnd) × (lost : Bool) × (written : List ℕ) × Wrote written × IsStuckCheck source end lost written × (status ≡ stuck_status end lost)) → EndedOn known Wrote ended
ended_of known source Wrote (Ok status) is told = known_checked known source told.0 told.1 told.2
    (λ text. (end : CheckEnd) × (lost : Bool) × (written : List ℕ) × Wrote written × IsStuckCheck text end lost written × (status ≡ stuck_status end lost))
    is told.4 (λ text check. (told.0, told.1, told.2, told.3, check, told.5))
ended_of known source Wrote (Err failure) is told = tt

-- what was answered of the front of a known text, and handed on
pub ended_on : (known : Option (List ℕ)) (slice source : List ℕ) (Wrote : List ℕ → Type 0) (ended result : Result ℕ ToolFailure) → slice ≡ source → result ≡ ended
    → IfSome known (λ text. source ≡ take 65537 text)
    → IfOk ended (λ status. (end : CheckEnd) × (lost : Bool) × (written : List ℕ) × Wrote written × IsStuckCheck slice end lost written × (status ≡ stuck_status end lost)) → EndedOn known Wrote result
ended_on known slice source Wrote ended result seen same is told = subst (EndedOn known Wrote) (sym same) (ended_of known source Wrote ended is
    (subst (λ s. IfOk ended (λ status. (end : CheckEnd) × (lost : Bool) × (written : List ℕ) × Wrote written × IsStuckCheck s end lost written × (status ≡ stuck_status end lost))) seen told))

cut_of : (known : Option (List ℕ)) (source : List ℕ) (Wrote : List ℕ → Type 0) (ended : Result ℕ ToolFailure) → IfSome known (λ text. source ≡ take 65537 text)
    → (IsErrOf ended failures.WriteFault → (end : CheckEnd) × (lost : Bool) × (whole : List ℕ) × (count : ℕ) × IsStuckCheck source end lost whole × Wrote (take count whole)) → CutOn known Wrote ended
cut_of known source Wrote ended is told = λ failed. let all = told failed in
    known_checked known source all.0 all.1 all.2 (λ text. (end : CheckEnd) × (lost : Bool) × (whole : List ℕ) × (count : ℕ) × IsStuckCheck text end lost whole × Wrote (take count whole))
    is all.4 (λ text check. (all.0, all.1, all.2, all.3, check, all.5))

-- the same of a write that failed
pub cut_on : (known : Option (List ℕ)) (slice source : List ℕ) (Wrote : List ℕ → Type 0) (ended result : Result ℕ ToolFailure) → slice ≡ source → result ≡ ended
    → IfSome known (λ text. source ≡ take 65537 text)
    → (IsErrOf ended failures.WriteFault → (end : CheckEnd) × (lost : Bool) × (whole : List ℕ) × (count : ℕ) × IsStuckCheck slice end lost whole × Wrote (take count whole)) → CutOn known Wrote result
cut_on known slice source Wrote ended result seen same is told = subst (CutOn known Wrote) (sym same) (cut_of known source Wrote ended is
    (subst (λ s. IsErrOf ended failures.WriteFault → (end : CheckEnd) × (lost : Bool) × (whole : List ℕ) × (count : ℕ) × IsStuckCheck s end lost whole × Wrote (take count whole)) seen told))
