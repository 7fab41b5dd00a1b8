-- The lines of objects with holds, one object after the other.
use Rattle.std.proofs.Common.{◌≡◌, ◌≤◌, ◌<◌, ◌+◌, ◌^◌, ℕ, List, [], ◌∷◌, ◌++◌, length, Option, Some, None, arith, refl, ap, sym, subst, ◌∙◌, append_assoc, length-append}
use Rattle.std.specs.declared.vec.IntoIter.{IntoIter}
use Rattle.std.specs.Vec.Iter.{into_iter_items, into_iter_len, into_iter_steps}
use Rattle.std.proofs.lemmas.List.{append-nil, map-append, length-map}
use Rattle.decl_core.specs.declared.object.Object.{Object}
use Rattle.decl_core.specs.ObjectForm.{ObjectForm}
use Rattle.decl_core.specs.ObjectMap.{object_of, objects_of}
use Rattle.decl_core.specs.declared.certificate.SeparatedPair.{SeparatedPair}
use Rattle.decl_core.specs.Exclusive.{IsExclusive}
use Rattle.decl_core.specs.Certificate.{IsFirstCertificate}
use Rattle.check_core.specs.declared.report.CheckEnd.{CheckEnd}
use Rattle.check_core.specs.declared.report.CheckEnd.TheVariants.{Counted}
use Rattle.check_core.specs.Report.{accepted_lines, count_line}
use Rattle.decl_core.specs.declared.hold.Rules.{Rules}
use Rattle.decl_core.specs.HoldForm.{RulesForm}
use Rattle.decl_core.specs.HoldMap.{rules_of, all_rules_of}
use Rattle.check_core.specs.HoldLines.{rule_lines}
use Rattle.check_core.specs.HeldReport.{IsHeldReported, AreHeldReported, IsHeldCheck, accepted, refused, no_object, and_object, counted}

-- one step of a row that is taken apart: it gave an item, or none
pub step_some : {X Z : Type 0} (s t : IntoIter X Z) (given : Option X) (x : X) → given ≡ Some x → into_iter_steps s given t → (into_iter_items s ≡ x ∷ into_iter_items t) × (into_iter_len t + 1 ≡ into_iter_len s)
step_some {X = X} s t given x is steps = subst (λ (g : Option X). into_iter_steps s g t) is steps

pub step_none : {X Z : Type 0} (s t : IntoIter X Z) (given : Option X) → given ≡ None → into_iter_steps s given t → into_iter_len s ≡ 0
step_none {X = X} s t given is steps = (subst (λ (g : Option X). into_iter_steps s g t) is steps).0

-- Of all objects, and of what they say, those before the rest are told.
pub record Told (all rest : List Object) (count : ℕ) (rules left : List Rules) (refused : ℕ) (text : List ℕ) : Type 0 where
  pub done : List Object
  pub said : List Rules
  pub split : all ≡ done ++ rest
  pub parted : rules ≡ said ++ left
  pub counted : count ≡ length rest
  pub same : length done ≡ length said
  pub few : refused ≤ length done
  pub told : AreHeldReported (objects_of done) (all_rules_of said) refused text

pub at_most_one : {o : ObjectForm} {r : RulesForm} {n : ℕ} {text : List ℕ} → IsHeldReported o r n text → n ≤ 1
at_most_one (accepted exclusive first) = omega arith
at_most_one (refused why) = omega arith

-- one object more
pub told_more : (all rest more : List Object) (count fewer : ℕ) (o : Object) (rules left behind : List Rules) (r : Rules) (n m k : ℕ) (text lines new : List ℕ)
    → Told all rest count rules left n text → rest ≡ o ∷ more → fewer + 1 ≡ count → left ≡ r ∷ behind → IsHeldReported (object_of o) (rules_of r) m lines → new ≡ text ++ lines → k ≡ n + m
    → Told all more fewer rules behind k new
told_more all rest more count fewer o rules left behind r n m k text lines new before is less own one grown sum = record {
  done = before.done ++ o ∷ [];
  said = before.said ++ r ∷ [];
  split = before.split ∙ ap (λ x. before.done ++ x) is ∙ sym (append_assoc before.done (o ∷ []) more);
  parted = before.parted ∙ ap (λ x. before.said ++ x) own ∙ sym (append_assoc before.said (r ∷ []) behind);
  counted = omega (arith, less, before.counted, ap length is);
  same = omega (arith, before.same, length-append before.done (o ∷ []), length-append before.said (r ∷ []));
  few = omega (arith, at_most_one one, before.few, sum, length-append before.done (o ∷ []));
  told = subst (λ x. AreHeldReported x (all_rules_of (before.said ++ r ∷ [])) k new) (sym (map-append object_of before.done (o ∷ [])))
      (subst (λ x. AreHeldReported (objects_of before.done ++ object_of o ∷ []) x k new) (sym (map-append rules_of before.said (r ∷ [])))
      (subst (λ t. AreHeldReported (objects_of before.done ++ object_of o ∷ []) (all_rules_of before.said ++ rules_of r ∷ []) k t) (sym grown)
      (subst (λ j. AreHeldReported (objects_of before.done ++ object_of o ∷ []) (all_rules_of before.said ++ rules_of r ∷ []) j (text ++ lines)) (sym sum) (and_object before.told one))));
}

-- no object so far
pub told_none : (all rest : List Object) (count : ℕ) (rules : List Rules) (text : List ℕ) → rest ≡ all → count ≡ length rest → text ≡ [] → Told all rest count rules rules 0 text
told_none all rest count rules text is size empty = record {
  done = [];
  said = [];
  split = sym is;
  parted = refl;
  counted = size;
  same = refl;
  few = omega arith;
  told = subst (λ t. AreHeldReported [] [] 0 t) (sym empty) no_object;
}

-- The count stays far below what a number holds.
pub count_fits : (all rest : List Object) (count : ℕ) (o : Object) (rules left : List Rules) (r : RulesForm) (n m : ℕ) (text lines : List ℕ)
    → Told all rest count rules left n text → IsHeldReported (object_of o) r m lines → length all < 2 ^ 63 → n + m < 2 ^ 64
count_fits all rest count o rules left r n m text lines before one few =
    omega (arith, at_most_one one, before.few, few, ap length before.split, length-append before.done rest)

nil_of : (left : List Rules) → length left ≡ 0 → left ≡ []
nil_of [] h = refl
nil_of (x ∷ xs) h = absurd (omega (arith, h))

-- all objects, of which as many are told as there are rules
pub told_all : (all rest : List Object) (count : ℕ) (rules left : List Rules) (n : ℕ) (text : List ℕ) → length all ≡ length rules → count ≡ 0 → Told all rest count rules left n text → AreHeldReported (objects_of all) (all_rules_of rules) n text
told_all all (o ∷ rest) count rules left n text same zero done = absurd (omega (arith, zero, done.counted))
told_all all [] count rules left n text same zero done =
    let whole : all ≡ done.done = done.split ∙ append-nil done.done in
    let none : length left ≡ 0 = omega (arith, same, ap length whole, done.same, ap length done.parted, length-append done.said left) in
    let said : rules ≡ done.said = done.parted ∙ ap (λ x. done.said ++ x) (nil_of left none) ∙ append-nil done.said in
    subst (λ r. AreHeldReported (objects_of r) (all_rules_of rules) n text) (sym whole) (subst (λ r. AreHeldReported (objects_of done.done) (all_rules_of r) n text) (sym said) done.told)

-- what is told of an accepted object
pub kept_told : (a b : Object) (r : RulesForm) (before mid now : List ℕ) → a ≡ b →
    (entries : List SeparatedPair) × IsFirstCertificate (object_of b) entries × IsExclusive (object_of b) × (mid ≡ before ++ accepted_lines (object_of b) entries) →
    now ≡ mid ++ rule_lines (object_of a) r →
    (text : List ℕ) × (now ≡ before ++ text) × IsHeldReported (object_of b) r 0 text
kept_told a b r before mid now same first told =
    let lines = accepted_lines (object_of b) first.0 in
    let more = rule_lines (object_of b) r in
    let it : now ≡ mid ++ more = subst (λ x. now ≡ mid ++ rule_lines (object_of x) r) same told in (
      lines ++ more,
      it ∙ ap (λ x. x ++ more) first.3 ∙ append_assoc before lines more,
      accepted first.2 first.1,
    )

-- what objects are told is a check of them
pub check_counted : (all : List Object) (rules : List RulesForm) (n k : ℕ) (lines text : List ℕ) (end : CheckEnd) → AreHeldReported (objects_of all) rules n lines
    → k ≡ length all → end ≡ Counted k n → text ≡ lines ++ count_line k n → IsHeldCheck (objects_of all) rules end text
check_counted all rules n k lines text end told size is written =
    let same : length (objects_of all) ≡ k = length-map all object_of ∙ sym size in
    let whole : IsHeldCheck (objects_of all) rules (Counted k n) (lines ++ count_line k n) =
    subst (λ j. IsHeldCheck (objects_of all) rules (Counted j n) (lines ++ count_line j n)) same (counted told) in
    subst (λ e. IsHeldCheck (objects_of all) rules e text) (sym is) (subst (λ t. IsHeldCheck (objects_of all) rules (Counted k n) t) (sym written) whole)
