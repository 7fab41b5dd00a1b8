-- The lines of objects, one object after the other, and the report of a source.
use Rattle.std.proofs.Common.{◌≡◌, ◌≤◌, ◌<◌, ◌+◌, ◌^◌, ◌⊎◌, ℕ, Bool, true, false, List, [], ◌∷◌, ◌++◌, length, Result, Err, arith, ap, sym, subst, ◌∙◌, append_assoc, length-append}
use Rattle.std.specs.Prelude.{◌||◌}
use Rattle.std.proofs.lemmas.List.{append-nil, map-append, length-map}
use Rattle.path_tree.specs.Tokens.{IsFirstFault}
use Rattle.path_tree.specs.declared.lex.fault.LexFault.{LexFault}
use Rattle.path_tree.specs.declared.lex.fault.LexFault.TheVariants.{TooLong}
use Rattle.decl_read.specs.declared.fault.DeclFault.{DeclFault}
use Rattle.decl_read.specs.declared.fault.DeclFault.TheVariants.{Lex, Memory}
use Rattle.decl_core.specs.declared.object.Object.{Object}
use Rattle.decl_core.specs.ObjectForm.{ObjectForm}
use Rattle.decl_read.specs.Sources.{AreObjectsOf, lex_fault_told}
use Rattle.decl_core.specs.ObjectMap.{object_of, objects_of}
use Rattle.check_core.specs.declared.report.CheckEnd.{CheckEnd}
use Rattle.check_core.specs.declared.report.CheckEnd.TheVariants.{Counted, Faulty}
use Rattle.check_core.specs.Report.{IsToldFault, accepted_lines, count_line, fault_line}
use Rattle.path_tree.specs.Path.{Path}
use Rattle.decl_core.specs.declared.certificate.SeparatedPair.{SeparatedPair}
use Rattle.decl_core.specs.Exclusive.{IsExclusive}
use Rattle.decl_core.specs.Certificate.{IsFirstCertificate}
use Rattle.stuck_core.specs.declared.found.Finding.{Finding}
use Rattle.stuck_core.specs.declared.found.Findings.{Findings}
use Rattle.stuck_core.specs.Found.{IsTold}
use Rattle.check_core.specs.Lines.{ending_line, some_lost, start_lines, told_lines, wait_lines}
use Rattle.check_core.specs.StuckReport.{IsSaid, AreSaid, IsStuckCheck, accepted, refused, no_object, and_object, counted, faulty}

-- Of all objects those before the rest are told.
pub record Told (all rest : List Object) (refused : ℕ) (lost : Bool) (text : List ℕ) : Type 0 where
  pub done : List Object
  pub split : all ≡ done ++ rest
  pub few : refused ≤ length done
  pub said : AreSaid (objects_of done) refused lost text

pub at_most_one : {o : ObjectForm} {n : ℕ} {lost : Bool} {text : List ℕ} → IsSaid o n lost text → n ≤ 1
at_most_one (accepted exclusive first told) = omega arith
at_most_one (refused why) = omega arith

-- one object more
pub told_more : (all rest left : List Object) (o : Object) (n m k : ℕ) (a b c : Bool) (text lines new : List ℕ)
    → Told all rest n a text → rest ≡ o ∷ left → IsSaid (object_of o) m b lines → new ≡ text ++ lines → k ≡ n + m → c ≡ a || b → Told all left k c new
told_more all rest left o n m k a b c text lines new before is one grown sum either = record {
  done = before.done ++ o ∷ [];
  split = before.split ∙ ap (λ r. before.done ++ r) is ∙ sym (append_assoc before.done (o ∷ []) left);
  few = omega (arith, at_most_one one, before.few, sum, length-append before.done (o ∷ []));
  said = subst (λ r. AreSaid r k c new) (sym (map-append object_of before.done (o ∷ [])))
      (subst (λ t. AreSaid (objects_of before.done ++ object_of o ∷ []) k c t) (sym grown)
      (subst (λ x. AreSaid (objects_of before.done ++ object_of o ∷ []) k x (text ++ lines)) (sym either)
      (subst (λ j. AreSaid (objects_of before.done ++ object_of o ∷ []) j (a || b) (text ++ lines)) (sym sum) (and_object before.said one))));
}

-- no object so far
pub told_none : (all rest : List Object) (text : List ℕ) → rest ≡ all → text ≡ [] → Told all rest 0 false text
told_none all rest text is empty = record {
  done = [];
  split = sym is;
  few = omega arith;
  said = subst (λ t. AreSaid [] 0 false t) (sym empty) no_object;
}

-- The count stays far below what a number holds.
pub count_fits : (all rest : List Object) (o : Object) (n m : ℕ) (a b : Bool) (text lines : List ℕ)
    → Told all rest n a text → IsSaid (object_of o) m b lines → length all < 2 ^ 63 → n + m < 2 ^ 64
count_fits all rest o n m a b text lines before one few =
    omega (arith, at_most_one one, before.few, few, ap length before.split, length-append before.done rest)

-- all objects
pub told_all : (all : List Object) (n : ℕ) (lost : Bool) (text : List ℕ) → Told all [] n lost text → AreSaid (objects_of all) n lost text
told_all all n lost text done = subst (λ r. AreSaid (objects_of r) n lost text) (sym (done.split ∙ append-nil done.done)) done.said

-- What a source with these objects is told is a check of it.
pub check_counted : (source : List ℕ) (all : List Object) (n : ℕ) (lines text : List ℕ) (end : CheckEnd) (lost : Bool) → AreObjectsOf source (objects_of all)
    → AreSaid (objects_of all) n lost lines → end ≡ Counted (length all) n → text ≡ lines ++ count_line (length all) n → IsStuckCheck source end lost text
check_counted source all n lines text end lost are said is written =
    let same : length (objects_of all) ≡ length all = length-map all object_of in
    let whole : IsStuckCheck source (Counted (length all) n) lost (lines ++ count_line (length all) n) =
    subst (λ k. IsStuckCheck source (Counted k n) lost (lines ++ count_line k n)) same (counted are said) in
    subst (λ e. IsStuckCheck source e lost text) (sym is) (subst (λ t. IsStuckCheck source (Counted (length all) n) lost t) (sym written) whole)

pub check_faulty : (source : List ℕ) (fault : DeclFault) (end : CheckEnd) (lost : Bool) (text : List ℕ) → IsToldFault source fault → end ≡ Faulty → lost ≡ false → text ≡ fault_line fault → IsStuckCheck source end lost text
check_faulty source fault end lost text told is none written =
    subst (λ e. IsStuckCheck source e lost text) (sym is) (subst (λ x. IsStuckCheck source Faulty x text) (sym none) (subst (λ t. IsStuckCheck source Faulty false t) (sym written) (faulty told)))

-- what is told of an object
pub told_is : (o : ObjectForm) (paths : List Path) (count : ℕ) (found : Findings) (now before : List ℕ) (each : List Finding) (lost : Bool) → paths ≡ o.paths → count ≡ length o.operations → IsTold paths count found →
    now ≡ before ++ (start_lines o 0 found.each.items ++ wait_lines o 0 count ++ ending_line o found.ending) → each ≡ found.each.items → lost ≡ some_lost each →
    (x : Findings) × IsTold o.paths (length o.operations) x × (now ≡ before ++ told_lines o x) × (lost ≡ some_lost x.each.items)
told_is o paths count found now before each lost are size told written each_is lost_is = (
  found,
  subst (λ n. IsTold o.paths n found) size (subst (λ p. IsTold p count found) are told),
  subst (λ n. now ≡ before ++ (start_lines o 0 found.each.items ++ wait_lines o 0 n ++ ending_line o found.ending)) size written,
  lost_is ∙ ap some_lost each_is,
)

abbrev ToldOf : Object → List ℕ → List ℕ → Bool → Type 0
ToldOf a now mid lost = (found : Findings) × IsTold (object_of a).paths (length (object_of a).operations) found × (now ≡ mid ++ told_lines (object_of a) found) × (lost ≡ some_lost found.each.items)

-- and of one that is accepted, behind what `check` says of it
pub kept_said : (a b : Object) (before mid now : List ℕ) (lost : Bool) → a ≡ b →
    (entries : List SeparatedPair) × IsFirstCertificate (object_of b) entries × IsExclusive (object_of b) × (mid ≡ before ++ accepted_lines (object_of b) entries) →
    (found : Findings) × IsTold (object_of a).paths (length (object_of a).operations) found × (now ≡ mid ++ told_lines (object_of a) found) × (lost ≡ some_lost found.each.items) →
    (text : List ℕ) × (now ≡ before ++ text) × IsSaid (object_of b) 0 lost text
kept_said a b before mid now lost same first told =
    let it = subst (λ x. ToldOf x now mid lost) same told in
    let lines = accepted_lines (object_of b) first.0 in
    let more = told_lines (object_of b) it.0 in (
      lines ++ more,
      it.2 ∙ ap (λ x. x ++ more) first.3 ∙ append_assoc before lines more,
      subst (λ l. IsSaid (object_of b) 0 l (lines ++ more)) (sym it.3) (accepted first.2 first.1 it.1),
    )
