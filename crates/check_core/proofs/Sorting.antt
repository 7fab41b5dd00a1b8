-- Objects that are judged one after another.
use Rattle.std.proofs.Common.{◌≡◌, inl, inr, ℕ, List, [], ◌∷◌, ◌++◌, length, refl, ap, sym, subst, ◌∙◌, append_assoc, length-append, arith}
use Rattle.std.proofs.lemmas.List.{append-nil, map-append}
use Rattle.decl_core.specs.declared.object.Object.{Object}
use Rattle.decl_core.specs.ObjectForm.{ObjectForm}
use Rattle.decl_core.specs.ObjectMap.{object_of, objects_of}
use Rattle.check_core.specs.Report.{refused_line}
use Rattle.decl_read.specs.Sources.{AreObjectsOf}
use Rattle.check_core.specs.Judging.{AreJudged, no_object, and_accepted, and_refused, refused}
use Rattle.check_core.specs.declared.judge.JudgedSource.{JudgedSource}
use Rattle.check_core.specs.declared.judge.JudgedSource.TheVariants as judged
use Rattle.check_core.specs.SourceView.{IsAdded, IsJudgedObjects, IsJudgedSource}

-- Of all objects those before the rest are judged.
pub record IsSorted (all rest ready : List Object) (text : List ℕ) : Type 0 where
  pub done : List Object
  pub split : all ≡ done ++ rest
  pub judged : AreJudged (objects_of done) (objects_of ready) text

pub sorted_none : (all rest ready : List Object) (text : List ℕ) → rest ≡ all → ready ≡ [] → text ≡ [] → IsSorted all rest ready text
sorted_none all rest ready text is none empty = record {
  done = [];
  split = sym is;
  judged = subst (λ t. AreJudged [] (objects_of ready) t) (sym empty) (subst (λ r. AreJudged [] (objects_of r) []) (sym none) no_object);
}

judged_more : (done ready more : List Object) (o : Object) (text longer : List ℕ) → AreJudged (objects_of done) (objects_of ready) text → IsAdded (object_of o) ready text more longer
    → AreJudged (objects_of done ++ object_of o ∷ []) (objects_of more) longer
judged_more done ready more o text longer before (inl (a, grown, same, exclusive, stays)) =
    let is : objects_of more ≡ objects_of ready ++ object_of o ∷ [] = ap objects_of grown ∙ map-append object_of ready (a ∷ []) ∙ ap (λ x. objects_of ready ++ x ∷ []) same in
    subst (λ t. AreJudged (objects_of done ++ object_of o ∷ []) (objects_of more) t) (sym stays) (subst (λ r. AreJudged (objects_of done ++ object_of o ∷ []) r text) (sym is) (and_accepted (object_of o) before exclusive))
judged_more done ready more o text longer before (inr (line, (i, j, p, first, told), stays, grown)) =
    let is : longer ≡ text ++ refused_line (object_of o) i j p = grown ∙ ap (λ l. text ++ l) told in
    subst (λ r. AreJudged (objects_of done ++ object_of o ∷ []) (objects_of r) longer) (sym stays) (subst (λ t. AreJudged (objects_of done ++ object_of o ∷ []) (objects_of ready) t) (sym is) (and_refused (object_of o) i j p before first))

-- one object more
pub sorted_more : (all rest left ready more : List Object) (o : Object) (text longer : List ℕ) → IsSorted all rest ready text → rest ≡ o ∷ left → IsAdded (object_of o) ready text more longer
    → IsSorted all left more longer
sorted_more all rest left ready more o text longer before is added = record {
  done = before.done ++ o ∷ [];
  split = before.split ∙ ap (λ r. before.done ++ r) is ∙ sym (append_assoc before.done (o ∷ []) left);
  judged = subst (λ r. AreJudged r (objects_of more) longer) (sym (map-append object_of before.done (o ∷ []))) (judged_more before.done ready more o text longer before.judged added);
}

pub sorted_all : (all ready : List Object) (text : List ℕ) → IsSorted all [] ready text → AreJudged (objects_of all) (objects_of ready) text
sorted_all all ready text done = subst (λ r. AreJudged (objects_of r) (objects_of ready) text) (sym (done.split ∙ append-nil done.done)) done.judged

-- where no line was told, all are accepted
pub all_ready : {all ready : List ObjectForm} {text : List ℕ} → AreJudged all ready text → text ≡ [] → (ready ≡ all) × AreJudged all all []
all_ready no_object none = (refl, no_object)
all_ready (and_accepted o before exclusive) none =
    let h = all_ready before none in
    (ap (λ r. r ++ o ∷ []) h.0, and_accepted o h.1 exclusive)
all_ready (and_refused {text = text} o i j p before first) none =
    let long : length (refused_line o i j p) ≡ 0 = omega (arith, length-append text (refused_line o i j p), ap length none) in
    absurd (omega (arith, long))

-- what objects are to a server, where these are accepted and the others were told so
pub ready_all : (all : List ObjectForm) (ready : List Object) (text : List ℕ) → AreJudged all (objects_of ready) text → text ≡ [] → (objects_of ready ≡ all) × AreJudged all all []
ready_all all ready text judged none = all_ready judged none

-- what objects of a source are, the source is
pub judged_source : (source : List ℕ) (all : List ObjectForm) (j : JudgedSource) → AreObjectsOf source all → IsJudgedObjects all j → IsJudgedSource source j
judged_source source all (judged.Ready ready) are (same, each) = (subst (AreObjectsOf source) (sym same) are, subst (λ r. AreJudged r r []) (sym same) each)
judged_source source all (judged.Told text) are (ready, each, some) = refused are each some
