-- Objects that are opened one after the other.
use Rattle.std.proofs.Common.{◌≡◌, ◌∙◌, ap, sym, subst, refl, arith, inl, inr, ℕ, ◌+◌, List, [], ◌∷◌, ◌++◌, length}
use Rattle.std.proofs.lemmas.List.{append-nil, append_assoc, map-append}
use Rattle.decl_core.specs.declared.object.Object.{Object}
use Rattle.decl_core.specs.ObjectMap.{object_names}
use Rattle.device_core.specs.Device.{Assignment}
use Rattle.device_core.specs.Papers.{Papers}
use Rattle.page_core.specs.Opened.{AreLoaded}
use Rattle.page_core.specs.Lists.{Among}
use Rattle.keep_core.specs.declared.opening.ObjectOpening.{ObjectOpening}
use Rattle.keep_core.specs.declared.open.NotOpened.{NotOpened}
use Rattle.keep_core.specs.declared.open.NotOpened.TheVariants.{Damaged, Fault}
use Rattle.keep_core.specs.Opening.{IsNotOpened, IsSealed, values_of}
use Rattle.serve_core.specs.Opened.{AreLoadedAll, ArePinnedAll}
use Rattle.serve_core.specs.Runs.{IsNotOpenedOf}

-- one object more, by the same shelf and hand or by later ones
loaded_one : (papers : Papers) (objects : List Object) (openings : List ObjectOpening) (o : Object) (opening : ObjectOpening) → AreLoadedAll papers objects openings → AreLoaded papers o.name o.parts.items (values_of opening) →
    AreLoadedAll papers (objects ++ o ∷ []) (openings ++ opening ∷ [])
loaded_one papers [] [] o opening all one = (one, tt)
loaded_one papers (first ∷ objects) (early ∷ openings) o opening (here, all) one = (here, loaded_one papers objects openings o opening all one)
loaded_one papers [] (early ∷ openings) o opening all one = absurd all
loaded_one papers (first ∷ objects) [] o opening all one = absurd all

pub pinned_as : (then agrees : Assignment → Type 0) (objects : List Object) (openings : List ObjectOpening) → ((a : Assignment) → agrees a → then a) → ArePinnedAll then objects openings → ArePinnedAll agrees objects openings
pinned_as then agrees [] [] files all = tt
pinned_as then agrees (o ∷ objects) (opening ∷ openings) files (hold, all) = (λ a is. hold a (files a is), pinned_as then agrees objects openings files all)
pinned_as then agrees [] (opening ∷ openings) files all = absurd all
pinned_as then agrees (o ∷ objects) [] files all = absurd all

pinned_one : (agrees : Assignment → Type 0) (objects : List Object) (openings : List ObjectOpening) (o : Object) (opening : ObjectOpening) → ArePinnedAll agrees objects openings → IsSealed agrees o opening → ArePinnedAll agrees (objects ++ o ∷ []) (openings ++ opening ∷ [])
pinned_one agrees [] [] o opening all one = (one, tt)
pinned_one agrees (first ∷ objects) (early ∷ openings) o opening (here, all) one = (here, pinned_one agrees objects openings o opening all one)
pinned_one agrees [] (early ∷ openings) o opening all one = absurd all
pinned_one agrees (first ∷ objects) [] o opening all one = absurd all

-- Of all these objects those before the rest are open, under these names and with these values.
pub record OpenedSoFar (before holds : Papers → Type 0) (earlier agrees : Assignment → Type 0) (all rest : List Object) (left : ℕ) (names : List (List ℕ)) (openings : List ObjectOpening) : Type 0 where
  pub done : List Object
  pub split : done ++ rest ≡ all
  pub counted : left ≡ length rest
  pub named : names ≡ object_names done
  pub loaded : (papers : Papers) → holds papers → AreLoadedAll papers done openings
  pub pinned : ArePinnedAll agrees done openings
  pub papers : (papers : Papers) → holds papers → before papers
  pub files : (a : Assignment) → agrees a → earlier a

pub opened_none : (holds : Papers → Type 0) (agrees : Assignment → Type 0) (all rest : List Object) (left : ℕ) (names : List (List ℕ)) (openings : List ObjectOpening) → rest ≡ all → left ≡ length rest → names ≡ [] → openings ≡ [] →
    OpenedSoFar holds holds agrees agrees all rest left names openings
opened_none holds agrees all rest left names openings same counted none empty = record {
  done = [];
  split = same;
  counted = counted;
  named = none;
  loaded = λ papers is. subst (AreLoadedAll papers []) (sym empty) tt;
  pinned = subst (ArePinnedAll agrees []) (sym empty) tt;
  papers = λ papers is. is;
  files = λ a is. is;
}

pub opened_more : {before then holds : Papers → Type 0} {earlier mid agrees : Assignment → Type 0} {all rest : List Object} {left : ℕ} {names : List (List ℕ)} {openings : List ObjectOpening} (o : Object) (later : List Object) (fewer : ℕ) (more : List (List ℕ)) (name : List ℕ) (grown : List ObjectOpening) (opening : ObjectOpening) →
    OpenedSoFar before then earlier mid all rest left names openings → rest ≡ o ∷ later → fewer + 1 ≡ left → name ≡ o.name → more ≡ names ++ name ∷ [] → grown ≡ openings ++ opening ∷ [] →
    ((papers : Papers) → holds papers → AreLoaded papers o.name o.parts.items (values_of opening)) → IsSealed agrees o opening → ((papers : Papers) → holds papers → then papers) → ((a : Assignment) → agrees a → mid a) →
    OpenedSoFar before holds earlier agrees all later fewer more grown
opened_more {mid = mid} {agrees = agrees} {names = names} {openings = openings} o later fewer more name grown opening so is fewer_is same names_are openings_are loaded pinned papers files =
    let done : List Object = so.done ++ o ∷ [] in
    record {
      done = done;
      split = append_assoc so.done (o ∷ []) later ∙ ap (λ (r : List Object). so.done ++ r) (sym is) ∙ so.split;
      counted = omega (arith, fewer_is, so.counted, ap length is);
      named = names_are ∙ ap (λ (n : List ℕ). names ++ n ∷ []) same ∙ ap (λ (ns : List (List ℕ)). ns ++ o.name ∷ []) so.named ∙ sym (map-append (λ (p : Object). p.name) so.done (o ∷ []));
      loaded = λ ps at. subst (AreLoadedAll ps done) (sym openings_are) (loaded_one ps so.done openings o opening (so.loaded ps (papers ps at)) (loaded ps at));
      pinned = subst (ArePinnedAll agrees done) (sym openings_are) (pinned_one agrees so.done openings o opening (pinned_as mid agrees so.done openings files so.pinned) pinned);
      papers = λ ps at. so.papers ps (papers ps at);
      files = λ a at. so.files a (files a at);
    }

no_rest : {X : Type 0} (xs : List X) → length xs ≡ 0 → xs ≡ []
no_rest [] none = refl
no_rest (x ∷ xs) none = absurd (omega (arith, none))

-- all are open
opened_done : {before holds : Papers → Type 0} {earlier agrees : Assignment → Type 0} {all rest : List Object} {left : ℕ} {names : List (List ℕ)} {openings : List ObjectOpening} (so : OpenedSoFar before holds earlier agrees all rest left names openings) → left ≡ 0 → so.done ≡ all
opened_done {rest = rest} so none =
    let empty : rest ≡ [] = no_rest rest (omega (arith, so.counted, none)) in
    sym (append-nil so.done) ∙ ap (λ (r : List Object). so.done ++ r) (sym empty) ∙ so.split

pub opened_all : {before holds : Papers → Type 0} {earlier agrees : Assignment → Type 0} {all rest : List Object} {left : ℕ} {names : List (List ℕ)} {openings : List ObjectOpening} → OpenedSoFar before holds earlier agrees all rest left names openings → left ≡ 0 → names ≡ object_names all
opened_all so none = so.named ∙ ap object_names (opened_done so none)

pub loaded_all : {before holds : Papers → Type 0} {earlier agrees : Assignment → Type 0} {all rest : List Object} {left : ℕ} {names : List (List ℕ)} {openings : List ObjectOpening} → OpenedSoFar before holds earlier agrees all rest left names openings → left ≡ 0 → (papers : Papers) → holds papers → AreLoadedAll papers all openings
loaded_all {openings = openings} so none = λ papers at. subst (λ (os : List Object). AreLoadedAll papers os openings) (opened_done so none) (so.loaded papers at)

pub pinned_all : {before holds : Papers → Type 0} {earlier agrees : Assignment → Type 0} {all rest : List Object} {left : ℕ} {names : List (List ℕ)} {openings : List ObjectOpening} → OpenedSoFar before holds earlier agrees all rest left names openings → left ≡ 0 → ArePinnedAll agrees all openings
pinned_all {agrees = agrees} {openings = openings} so none = subst (λ (os : List Object). ArePinnedAll agrees os openings) (opened_done so none) so.pinned

among_at : (done later : List Object) (o : Object) → Among o (done ++ (o ∷ later))
among_at [] later o = inl refl
among_at (x ∷ done) later o = inr (among_at done later o)

-- why one is not opened is why they all are not
pub opened_not : {before then : Papers → Type 0} {earlier mid : Assignment → Type 0} {all rest : List Object} {left : ℕ} {names : List (List ℕ)} {openings : List ObjectOpening} (holds : Papers → Type 0) (failed : Type 0) (o : Object) (later : List Object) (why : NotOpened) → OpenedSoFar before then earlier mid all rest left names openings → rest ≡ o ∷ later → IsNotOpened holds failed o why → IsNotOpenedOf holds all why
opened_not holds failed o later (Damaged line) so is not = (o, subst (Among o) (ap (λ (r : List Object). so.done ++ r) (sym is) ∙ so.split) (among_at so.done later o), not.0, not.1, not.2)
opened_not holds failed o later (Fault fault) so is not = tt
