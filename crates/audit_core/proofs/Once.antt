-- No two verdicts hold of the same bytes.
use Rattle.std.proofs.Common.{◌≡◌, ℕ, ◌+◌, ◌<◌, ◌⊎◌, inl, inr, List, [], ◌∷◌, ◌++◌, length, refl, sym, ap, ◌∙◌, subst, arith, zero, suc}
use Rattle.std.specs.Prelude.{◌≢◌}
use Rattle.std.specs.Str.Lines.{lines}
use Rattle.path_tree.specs.Path.{Path}
use Rattle.path_tree.specs.Trace.{Event, IsTrace}
use Rattle.decl_core.specs.ObjectForm.{ObjectForm}
use Rattle.word_core.specs.Events.{Called, Happened, began, ended, trace_of, history_of}
use Rattle.audit_core.specs.Counting.{RefusesFirst}
use Rattle.audit_core.specs.Tells.{Heard, nothing_heard, IsOpened, Tells, Tell, object_told, part_told, start_told, end_told}
use Rattle.audit_core.specs.declared.verdict.AuditFault.{AuditFault}
use Rattle.audit_core.specs.declared.verdict.AuditFault.TheVariants as faults
use Rattle.audit_core.specs.declared.verdict.AuditVerdict.{AuditVerdict}
use Rattle.audit_core.specs.declared.verdict.AuditVerdict.TheVariants as verdicts
use Rattle.audit_core.specs.Verdicts.{IsBreach, IsWrong, IsFault, IsFirstFault, IsLegalTrace, EndsEarly, IsVerdict, verdict_for}
use Rattle.audit_core.proofs.Exact.{tells_once, tell_trace, tell_front, tell_once, opened_step, end_opened, stranger_told, fault_excluded, legal_no_fault}

-- a start was told behind the last part
begin_opened : (o : ObjectForm) (heard : Heard) (line : List ℕ) (after : Heard) (c : Called) → Tells o heard line after → after.past ≡ began c ∷ heard.past → IsOpened o heard
begin_opened o heard line after c (object_told says is) same = absurd (omega (arith, ap length same))
begin_opened o heard line after c (part_told says is) same = absurd (omega (arith, ap length same))
begin_opened o heard line after c (start_told says is) same = is.opened
begin_opened o heard line after c (end_told says opened is same' runs) same = opened

-- what is opened stays so
open_end : (o : ObjectForm) (heard : Heard) (ls : List (List ℕ)) (after : Heard) → IsOpened o heard → Tell o heard ls after → IsOpened o after
open_end o heard [] after opened told = subst (IsOpened o) (sym told) opened
open_end o heard (line ∷ ls) after opened told = open_end o told.0 ls after (opened_step o heard line told.0 opened told.1).0 told.2

-- where the last part is missing at the end, no line has a fault
unopened_whole : (o : ObjectForm) (heard : Heard) (line : List ℕ) (next last : Heard) (later : List (List ℕ)) (fault : AuditFault) → IsFault o heard line fault → Tells o heard line next → Tell o next later last → (IsOpened o last → ⊥) → ⊥
unopened_whole o heard line next last later faults.Bad f told rest un = f.untold next told
unopened_whole o heard line next last later (faults.Breaks number) f told rest un =
    un (open_end o next later last (opened_step o heard line next (begin_opened o heard line _ f.call f.told refl) told).0 rest)
unopened_whole o heard line next last later faults.Wrong f told rest un =
    un (open_end o next later last (opened_step o heard line next (end_opened o heard line _ f.call f.reply f.told refl) told).0 rest)
unopened_whole o heard line next last later faults.Stranger f told rest un =
    un (open_end o next later last (opened_step o heard line next f.opened told).0 rest)

early_no_fault : (o : ObjectForm) (bytes : List ℕ) (end number : ℕ) (fault : AuditFault) → EndsEarly o bytes end → IsFirstFault o bytes number fault → ⊥
early_no_fault o bytes end number fault e f =
    let whole : Tell o nothing_heard (f.before ++ f.line ∷ f.after) e.heard = subst (λ ls. Tell o nothing_heard ls e.heard) f.cut e.told in
    let front = tell_front o nothing_heard f.before f.line f.after f.heard e.heard tt f.told whole in
    unopened_whole o f.heard f.line front.0 e.heard f.after fault f.faulty front.1 front.2 e.unopened

order : (j k : ℕ) → (j < k) ⊎ ((j ≡ k) ⊎ (k < j))
order zero zero = inr (inl refl)
order zero (suc k) = inl (omega arith)
order (suc j) zero = inr (inr (omega arith))
order (suc j) (suc k) = one_more (order j k) where
  one_more : (j < k) ⊎ ((j ≡ k) ⊎ (k < j)) → (suc j < suc k) ⊎ ((suc j ≡ suc k) ⊎ (suc k < suc j))
  one_more (inl less) = inl (omega (arith, less))
  one_more (inr (inl same)) = inr (inl (ap suc same))
  one_more (inr (inr more)) = inr (inr (omega (arith, more)))

-- one path is the first that refuses
one_refusal : (paths : List Path) (op : ℕ) (t : List Event) (j k : ℕ) → RefusesFirst paths op t j → RefusesFirst paths op t k → j ≡ k
one_refusal paths op t j k p q = by (order j k) where
  by : (j < k) ⊎ ((j ≡ k) ⊎ (k < j)) → j ≡ k
  by (inl less) = absurd (p.refuses (q.others j p.path less p.there))
  by (inr (inl same)) = same
  by (inr (inr more)) = absurd (q.refuses (p.others k q.path more q.there))

-- no line tells both a start and an end
not_both : (o : ObjectForm) (heard : Heard) (line : List ℕ) (n : ℕ) → IsTrace (trace_of heard.past) → IsBreach o heard line n → IsWrong o heard line → ⊥
not_both o heard line n trace p q =
    let same = tells_once o heard line (record heard { past = began p.call ∷ heard.past }) (record heard { past = ended q.call q.reply ∷ heard.past }) trace p.told q.told in
    let past : ◌≡◌ {A = List Happened} (began p.call ∷ heard.past) (ended q.call q.reply ∷ heard.past) = ap (λ h. h.past) same in
    cc

-- one fault of a line
one_fault : (o : ObjectForm) (heard : Heard) (line : List ℕ) (f g : AuditFault) → IsTrace (trace_of heard.past) → IsFault o heard line f → IsFault o heard line g → f ≡ g
one_fault o heard line faults.Bad faults.Bad trace p q = refl
one_fault o heard line faults.Bad (faults.Breaks m) trace p q = absurd (p.untold _ q.told)
one_fault o heard line faults.Bad faults.Wrong trace p q = absurd (p.untold _ q.told)
one_fault o heard line faults.Bad faults.Stranger trace p q = absurd (p.unended q)
one_fault o heard line (faults.Breaks n) faults.Bad trace p q = absurd (q.untold _ p.told)
one_fault o heard line (faults.Breaks n) (faults.Breaks m) trace p q =
    let same = tells_once o heard line (record heard { past = began p.call ∷ heard.past }) (record heard { past = began q.call ∷ heard.past }) trace p.told q.told in
    let past : ◌≡◌ {A = List Happened} (began p.call ∷ heard.past) (began q.call ∷ heard.past) = ap (λ h. h.past) same in
    let call : p.call ≡ q.call = cc in
    let place = one_refusal o.paths q.call.operation (trace_of heard.past) p.place q.place (subst (λ c. RefusesFirst o.paths c.operation (trace_of heard.past) p.place) call p.first) q.first in
    ap faults.Breaks (p.counted ∙ ap (λ k. k + 1) place ∙ sym q.counted)
one_fault o heard line (faults.Breaks n) faults.Wrong trace p q = absurd (not_both o heard line n trace p q)
one_fault o heard line (faults.Breaks n) faults.Stranger trace p q = absurd (stranger_told o heard line _ q p.told)
one_fault o heard line faults.Wrong faults.Bad trace p q = absurd (q.untold _ p.told)
one_fault o heard line faults.Wrong (faults.Breaks m) trace p q = absurd (not_both o heard line m trace q p)
one_fault o heard line faults.Wrong faults.Wrong trace p q = refl
one_fault o heard line faults.Wrong faults.Stranger trace p q = absurd (stranger_told o heard line _ q p.told)
one_fault o heard line faults.Stranger faults.Bad trace p q = absurd (q.unended p)
one_fault o heard line faults.Stranger (faults.Breaks m) trace p q = absurd (stranger_told o heard line _ p q.told)
one_fault o heard line faults.Stranger faults.Wrong trace p q = absurd (stranger_told o heard line _ p q.told)
one_fault o heard line faults.Stranger faults.Stranger trace p q = refl

-- two cuts of a list are at one place, or one of them is before the other
abbrev Cuts : {A : Type 0} → List A → List A → A → A → Type 0
Cuts {A} xs ys x y = ((xs ≡ ys) × (x ≡ y)) ⊎ (((more : List A) × (ys ≡ xs ++ x ∷ more)) ⊎ ((more : List A) × (xs ≡ ys ++ y ∷ more)))

cuts : {A : Type 0} (xs ys : List A) (x y : A) (xt yt : List A) → xs ++ x ∷ xt ≡ ys ++ y ∷ yt → Cuts xs ys x y
cuts {A} [] [] x y xt yt e = inl (refl, cc)
cuts {A} [] (b ∷ ys) x y xt yt e = let head : b ≡ x = cc in inr (inl (ys, ap (λ z. z ∷ ys) head))
cuts {A} (a ∷ xs) [] x y xt yt e = let head : a ≡ y = cc in inr (inr (xs, ap (λ z. z ∷ xs) head))
cuts {A} (a ∷ xs) (b ∷ ys) x y xt yt e =
    let head : a ≡ b = cc in
    let tail : xs ++ x ∷ xt ≡ ys ++ y ∷ yt = cc in
    one_more head (cuts xs ys x y xt yt tail) where
      one_more : a ≡ b → Cuts xs ys x y → Cuts (a ∷ xs) (b ∷ ys) x y
      one_more head (inl same) = let front : xs ≡ ys = same.0 in inl (cc, same.1)
      one_more head (inr (inl more)) = let front : ys ≡ xs ++ x ∷ more.0 = more.1 in inr (inl (more.0, cc))
      one_more head (inr (inr more)) = let front : xs ≡ ys ++ y ∷ more.0 = more.1 in inr (inr (more.0, cc))

-- no line before the first with a fault has one
none_before : (o : ObjectForm) (bytes : List ℕ) (n m : ℕ) (f g : AuditFault) (a : IsFirstFault o bytes n f) (b : IsFirstFault o bytes m g) (more : List (List ℕ)) → b.before ≡ a.before ++ a.line ∷ more → ⊥
none_before o bytes n m f g a b more same =
    let whole : Tell o nothing_heard (a.before ++ a.line ∷ more) b.heard = subst (λ ls. Tell o nothing_heard ls b.heard) same b.told in
    let front = tell_front o nothing_heard a.before a.line more a.heard b.heard tt a.told whole in
    fault_excluded o a.heard a.line front.0 b.heard more f (tell_trace o nothing_heard a.before a.heard tt a.told) a.faulty front.1 front.2 b.sound

one_first : (o : ObjectForm) (bytes : List ℕ) (n m : ℕ) (f g : AuditFault) → IsFirstFault o bytes n f → IsFirstFault o bytes m g → (n ≡ m) × (f ≡ g)
one_first o bytes n m f g a b = by (cuts a.before b.before a.line b.line a.after b.after (sym a.cut ∙ b.cut)) where
  by : Cuts a.before b.before a.line b.line → (n ≡ m) × (f ≡ g)
  by (inl same) =
      let heard : a.heard ≡ b.heard = tell_once o nothing_heard a.before a.heard b.heard tt a.told (subst (λ ls. Tell o nothing_heard ls b.heard) (sym same.0) b.told) in
      let other : IsFault o a.heard a.line g = subst (λ h. IsFault o h a.line g) (sym heard) (subst (λ l. IsFault o b.heard l g) (sym same.1) b.faulty) in (
        a.counted ∙ ap (λ ls. length ls + 1) same.0 ∙ sym b.counted,
        one_fault o a.heard a.line f g (tell_trace o nothing_heard a.before a.heard tt a.told) a.faulty other,
      )
  by (inr (inl more)) = absurd (none_before o bytes n m f g a b more.0 more.1)
  by (inr (inr more)) = absurd (none_before o bytes m n g f b a more.0 more.1)

-- what a verdict that says something says
data Sees (o : ObjectForm) (bytes : List ℕ) : AuditVerdict → Type 0 where
  legal : (entries : ℕ) → IsLegalTrace o bytes entries → Sees o bytes (verdicts.Legal entries)
  faulty : (number : ℕ) (fault : AuditFault) → IsFirstFault o bytes number fault → Sees o bytes (verdict_for number fault)
  early : (number : ℕ) → EndsEarly o bytes number → Sees o bytes (verdicts.BadLine number)

sees : (o : ObjectForm) (bytes : List ℕ) (v : AuditVerdict) → v ≢ verdicts.Memory → IsVerdict o bytes v → Sees o bytes v
sees o bytes (verdicts.Legal n) some is = legal n is
sees o bytes (verdicts.BadLine n) some (inl f) = faulty n faults.Bad f
sees o bytes (verdicts.BadLine n) some (inr e) = early n e
sees o bytes (verdicts.BreaksPath n p) some f = faulty n (faults.Breaks p) f
sees o bytes (verdicts.WrongReply n) some f = faulty n faults.Wrong f
sees o bytes (verdicts.NotRunning n) some f = faulty n faults.Stranger f
sees o bytes verdicts.Memory some is = absurd (some refl)

one_sight : (o : ObjectForm) (bytes : List ℕ) (v w : AuditVerdict) → Sees o bytes v → Sees o bytes w → v ≡ w
one_sight o bytes v w (legal n a) (legal m b) =
    let same : a.heard ≡ b.heard = tell_once o nothing_heard (lines bytes) a.heard b.heard tt a.told b.told in
    ap verdicts.Legal (a.counted ∙ ap (λ h. length (history_of o h.past)) same ∙ sym b.counted)
one_sight o bytes v w (legal n a) (faulty m g b) = absurd (legal_no_fault o bytes n m g a b)
one_sight o bytes v w (legal n a) (early m b) =
    let same : a.heard ≡ b.heard = tell_once o nothing_heard (lines bytes) a.heard b.heard tt a.told b.told in absurd (b.unopened (subst (IsOpened o) same a.opened))
one_sight o bytes v w (faulty n f a) (legal m b) = absurd (legal_no_fault o bytes m n f b a)
one_sight o bytes v w (faulty n f a) (faulty m g b) =
    let same = one_first o bytes n m f g a b in λ i. verdict_for (same.0 i) (same.1 i)
one_sight o bytes v w (faulty n f a) (early m b) = absurd (early_no_fault o bytes m n f b a)
one_sight o bytes v w (early n a) (legal m b) =
    let same : b.heard ≡ a.heard = tell_once o nothing_heard (lines bytes) b.heard a.heard tt b.told a.told in absurd (a.unopened (subst (IsOpened o) same b.opened))
one_sight o bytes v w (early n a) (faulty m g b) = absurd (early_no_fault o bytes n m g a b)
one_sight o bytes v w (early n a) (early m b) = ap verdicts.BadLine (a.counted ∙ sym b.counted)

pub one_verdict : (o : ObjectForm) (bytes : List ℕ) (first second : AuditVerdict) → first ≢ verdicts.Memory → second ≢ verdicts.Memory
    → IsVerdict o bytes first → IsVerdict o bytes second → first ≡ second
one_verdict o bytes first second some other p q = one_sight o bytes first second (sees o bytes first some p) (sees o bytes second other q)
