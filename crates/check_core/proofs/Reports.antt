-- The lines of objects, one object after the other, and the report of a source.
use Rattle.std.proofs.Common.{◌≡◌, ◌≤◌, ◌<◌, ◌+◌, ◌^◌, ◌⊎◌, inl, inr, ℕ, List, [], ◌∷◌, ◌++◌, length, Result, Err, arith, ap, sym, subst, ◌∙◌, append_assoc, length-append}
use Rattle.std.proofs.lemmas.List.{append-nil, map-append, length-map}
use Rattle.path_tree.specs.Tokens.{IsFirstFault}
use Rattle.path_tree.specs.declared.lex.fault.LexFault.{LexFault}
use Rattle.path_tree.specs.declared.lex.fault.LexFault.TheVariants.{TooLong}
use Rattle.decl_read.specs.declared.fault.DeclFault.{DeclFault}
use Rattle.decl_read.specs.declared.fault.DeclFault.TheVariants.{Lex, Memory}
use Rattle.decl_core.specs.declared.object.Object.{Object}
use Rattle.decl_core.specs.ObjectForm.{ObjectForm}
use Rattle.decl_read.specs.Sources.{AreObjectsOf, lex_fault_told}
use Rattle.decl_core.specs.ObjectMap.{object_of, objects_of}
use Rattle.check_core.specs.declared.report.CheckEnd.{CheckEnd}
use Rattle.check_core.specs.declared.report.CheckEnd.TheVariants.{Counted, Faulty}
use Rattle.check_core.specs.Report.{IsReported, AreReported, IsToldFault, IsCheck, IsWantOfMemory, accepted, refused, no_object, and_object, counted, faulty, count_line, fault_line}

-- Of all objects those before the rest are reported.
pub record Reported (all rest : List Object) (refused : ℕ) (text : List ℕ) : Type 0 where
  pub done : List Object
  pub split : all ≡ done ++ rest
  pub few : refused ≤ length done
  pub reported : AreReported (objects_of done) refused text

pub at_most_one : {o : ObjectForm} {n : ℕ} {text : List ℕ} → IsReported o n text → n ≤ 1
at_most_one (accepted exclusive first) = omega arith
at_most_one (refused why) = omega arith

-- one object more
pub reported_more : (all rest left : List Object) (o : Object) (n m k : ℕ) (text lines new : List ℕ)
    → Reported all rest n text → rest ≡ o ∷ left → IsReported (object_of o) m lines → new ≡ text ++ lines → k ≡ n + m → Reported all left k new
reported_more all rest left o n m k text lines new before is one grown sum = record {
  done = before.done ++ o ∷ [];
  split = before.split ∙ ap (λ r. before.done ++ r) is ∙ sym (append_assoc before.done (o ∷ []) left);
  few = omega (arith, at_most_one one, before.few, length-append before.done (o ∷ []));
  reported = subst (λ r. AreReported r k new) (sym (map-append object_of before.done (o ∷ [])))
      (subst (λ t. AreReported (objects_of before.done ++ object_of o ∷ []) k t) (sym grown)
      (subst (λ j. AreReported (objects_of before.done ++ object_of o ∷ []) j (text ++ lines)) (sym sum) (and_object before.reported one)));
}

-- no object so far
pub reported_none : (all rest : List Object) (text : List ℕ) → rest ≡ all → text ≡ [] → Reported all rest 0 text
reported_none all rest text is empty = record {
  done = [];
  split = sym is;
  few = omega arith;
  reported = subst (λ t. AreReported [] 0 t) (sym empty) no_object;
}

-- The count stays far below what a number holds.
pub count_fits : (all rest : List Object) (o : Object) (n m : ℕ) (text lines : List ℕ)
    → Reported all rest n text → IsReported (object_of o) m lines → length all < 2 ^ 63 → n + m < 2 ^ 64
count_fits all rest o n m text lines before one few =
    omega (arith, at_most_one one, before.few, ap length before.split, length-append before.done rest)

-- all objects
pub reported_all : (all : List Object) (n : ℕ) (text : List ℕ) → Reported all [] n text → AreReported (objects_of all) n text
reported_all all n text done = subst (λ r. AreReported (objects_of r) n text) (sym (done.split ∙ append-nil done.done)) done.reported

-- What a source with these objects is told is a check of it.
pub check_counted : (source : List ℕ) (all : List Object) (n : ℕ) (lines text : List ℕ) (end : CheckEnd) → AreObjectsOf source (objects_of all)
    → AreReported (objects_of all) n lines → end ≡ Counted (length all) n → text ≡ lines ++ count_line (length all) n → IsCheck source end text
check_counted source all n lines text end are reported is written =
    let same : length (objects_of all) ≡ length all = length-map all object_of in
    let whole : IsCheck source (Counted (length all) n) (lines ++ count_line (length all) n) =
    subst (λ k. IsCheck source (Counted k n) (lines ++ count_line k n)) same (counted are reported) in
    subst (λ e. IsCheck source e text) (sym is) (subst (λ t. IsCheck source (Counted (length all) n) t) (sym written) whole)

-- The objects of a source are counted, and they are those that were read.
pub count_only : (all : List Object) (objects : List ObjectForm) (n : ℕ) (end : CheckEnd) → end ≡ Counted (length all) n → objects_of all ≡ objects
    → end ≡ Counted (length objects) n
count_only all objects n end is same = is ∙ ap (λ k. Counted k n) (sym (length-map all object_of) ∙ ap length same)

-- What the reader of objects says of a fault, where it is no want of memory.
pub told_fault : {M : Type 0} (source : List ℕ) (fault : DeclFault) → (IsWantOfMemory fault → ⊥)
    → ((objects : List ObjectForm) → AreObjectsOf source objects → fault ≡ Memory)
    → (65536 < length source → ◌≡◌ {A = Result M DeclFault} (Err fault) (Err (Lex TooLong)))
    → ((first : LexFault) → IsFirstFault source first → length source ≤ 65536 → (fault ≡ lex_fault_told first) ⊎ (fault ≡ Memory))
    → IsToldFault source fault
told_fault source fault other only long lexical = record {
  not_memory = other;
  no_objects = λ objects are. other (inl (only objects are));
  too_long = λ h. let e = long h in cc;
  lexical = λ first h short. first_of first (lexical first h short);
}
  where
    first_of : (first : LexFault) → (fault ≡ lex_fault_told first) ⊎ (fault ≡ Memory) → fault ≡ lex_fault_told first
    first_of first (inl e) = e
    first_of first (inr e) = absurd (other (inl e))

-- The line of such a fault is a check of the source.
pub check_faulty : (source : List ℕ) (fault : DeclFault) (text : List ℕ) (end : CheckEnd) → IsToldFault source fault → end ≡ Faulty → text ≡ fault_line fault → IsCheck source end text
check_faulty source fault text end told is written =
    subst (λ e. IsCheck source e text) (sym is) (subst (λ t. IsCheck source Faulty t) (sym written) (faulty told))
