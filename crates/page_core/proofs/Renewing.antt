-- New lists, from a plan to the last page that is written.
use Rattle.std.proofs.Common.{◌≡◌, ℕ, zero, suc, ◌+◌, ◌<◌, ◌≤◌, ◌⊎◌, inl, inr, List, [], ◌∷◌, length, Some, refl, sym, ap, ◌∙◌, subst, arith}
use Rattle.std.specs.Prelude.{slice_get, slice_set}
use Rattle.std.proofs.lemmas.Bool.{cases_eq}
use Rattle.device_core.specs.declared.hand.Stamp.{Stamp}
use Rattle.device_core.specs.Device.{Assignment}
use Rattle.page_core.specs.declared.plan.PageWrite.{PageWrite}
use Rattle.page_core.specs.Bytes.{IsPage, ArePages}
use Rattle.page_core.specs.Plans.{Plans, ends, keeps, replaces, adds}
use Rattle.page_core.specs.Renewed.{IsWritten, AreOf, Renews, with_sealed, AreSealed, ArePlaces}
use Rattle.page_core.proofs.ListBytes.{some_same, holds_page}

-- an item that is set, and another one
pub set_same : {X : Type 0} (xs : List X) (k : ℕ) (x : X) → k < length xs → slice_get (slice_set xs k x) k ≡ Some x
set_same [] k x less = absurd (omega (arith, less))
set_same (y ∷ ys) zero x less = refl
set_same (y ∷ ys) (suc k) x less = set_same ys k x (omega (arith, less))

pub set_other : {X : Type 0} (xs : List X) (k j : ℕ) (x : X) → (j ≡ k → ⊥) → slice_get (slice_set xs k x) j ≡ slice_get xs j
set_other [] k j x other = refl
set_other (y ∷ ys) zero zero x other = absurd (other refl)
set_other (y ∷ ys) zero (suc j) x other = refl
set_other (y ∷ ys) (suc k) zero x other = refl
set_other (y ∷ ys) (suc k) (suc j) x other = set_other ys k j x (λ e. other (ap suc e))

pub set_long : {X : Type 0} (xs : List X) (k : ℕ) (x : X) → length (slice_set xs k x) ≡ length xs
set_long [] k x = refl
set_long (y ∷ ys) zero x = refl
set_long (y ∷ ys) (suc k) x = omega (arith, set_long ys k x)

pub within : {X : Type 0} (xs : List X) (k : ℕ) (x : X) → slice_get xs k ≡ Some x → k < length xs
within [] k x is = absurd cc
within (y ∷ ys) zero x is = omega arith
within (y ∷ ys) (suc k) x is = omega (arith, within ys k x is)

-- the stamps and the pages of a plan are as many
pub plan_many : (place : ℕ) (olds : List Stamp) (befores pages : List (List ℕ)) (stamps : List Stamp) (writes : List PageWrite) (gone : List Stamp) → Plans place olds befores pages stamps writes gone → length stamps ≡ length pages
plan_many place olds befores pages stamps writes gone ends = refl
plan_many place olds befores pages stamps writes gone (keeps old page p) = omega (arith, plan_many _ _ _ _ _ _ _ p)
plan_many place olds befores pages stamps writes gone (replaces old stamp before page write later other at bytes p) = omega (arith, plan_many _ _ _ _ _ _ _ p)
plan_many place olds befores pages stamps writes gone (adds stamp page write later at bytes p) = omega (arith, plan_many _ _ _ _ _ _ _ p)

-- one write more in front
more_written : (k : ℕ) (bytes : List ℕ) (X : Type 0) (write : PageWrite) (writes : List PageWrite) → X ⊎ IsWritten writes k bytes → X ⊎ IsWritten (write ∷ writes) k bytes
more_written k bytes X write writes (inl x) = inl x
more_written k bytes X write writes (inr w) = inr (inr w)

module _ (Good : ℕ → Stamp → List ℕ → Type 0) where
  -- each page of old stamps is good, from this place on
  abbrev pub GoodFrom : ℕ → List Stamp → List (List ℕ) → Type 0
  GoodFrom place [] befores = Unit {0}
  GoodFrom place (old ∷ olds) [] = Unit {0}
  GoodFrom place (old ∷ olds) (before ∷ befores) = Good place old before × GoodFrom (place + 1) olds befores

  -- a plan leaves each stamp good, or its page is written
  pub plan_each : (place : ℕ) (olds : List Stamp) (befores pages : List (List ℕ)) (stamps : List Stamp) (writes : List PageWrite) (gone : List Stamp) → Plans place olds befores pages stamps writes gone → GoodFrom place olds befores
      → (k : ℕ) (stamp : Stamp) (bytes : List ℕ) → slice_get stamps k ≡ Some stamp → slice_get pages k ≡ Some bytes → Good (place + k) stamp bytes ⊎ IsWritten writes (place + k) bytes
  plan_each place olds befores pages stamps writes gone ends good k stamp bytes there is = absurd cc
  plan_each place olds befores pages stamps writes gone (keeps old page p) good zero stamp bytes there is =
      let at : place + 0 ≡ place = omega arith in
      inl (subst (λ n. Good n stamp bytes) (sym at) (subst (λ s. Good place s bytes) (some_same there) (subst (Good place old) (some_same is) good.0)))
  plan_each place olds befores pages stamps writes gone (keeps old page p) good (suc k) stamp bytes there is =
      let at : (place + 1) + k ≡ place + suc k = omega arith in
      subst (λ n. Good n stamp bytes ⊎ IsWritten writes n bytes) at (plan_each (place + 1) _ _ _ _ writes gone p good.1 k stamp bytes there is)
  plan_each place olds befores pages stamps writes gone (replaces old new before page write later other here bytes_are p) good zero stamp bytes there is =
      inr (inl (omega (arith, here), bytes_are ∙ some_same is))
  plan_each place olds befores pages stamps writes gone (replaces old new before page write later other here bytes_are p) good (suc k) stamp bytes there is =
      let at : (place + 1) + k ≡ place + suc k = omega arith in
      more_written (place + suc k) bytes (Good (place + suc k) stamp bytes) write later (subst (λ n. Good n stamp bytes ⊎ IsWritten later n bytes) at (plan_each (place + 1) _ _ _ _ _ _ p good.1 k stamp bytes there is))
  plan_each place olds befores pages stamps writes gone (adds new page write later here bytes_are p) good zero stamp bytes there is =
      inr (inl (omega (arith, here), bytes_are ∙ some_same is))
  plan_each place olds befores pages stamps writes gone (adds new page write later here bytes_are p) good (suc k) stamp bytes there is =
      let at : (place + 1) + k ≡ place + suc k = omega arith in
      more_written (place + suc k) bytes (Good (place + suc k) stamp bytes) write later (subst (λ n. Good n stamp bytes ⊎ IsWritten later n bytes) at (plan_each (place + 1) _ _ _ _ _ _ p tt k stamp bytes there is))

-- each write of a plan is of one of its pages, counted from its place
abbrev pub AreFrom : ℕ → List (List ℕ) → List PageWrite → Type 0
AreFrom place pages [] = Unit {0}
AreFrom place pages (write ∷ writes) = ((j : ℕ) × (write.place ≡ place + j) × (slice_get pages j ≡ Some write.bytes)) × AreFrom place pages writes

one_before : (place : ℕ) (page : List ℕ) (pages : List (List ℕ)) (writes : List PageWrite) → AreFrom (place + 1) pages writes → AreFrom place (page ∷ pages) writes
one_before place page pages [] are = tt
one_before place page pages (write ∷ writes) are = ((suc are.0.0, omega (arith, are.0.1), are.0.2), one_before place page pages writes are.1)

pub plan_from : (place : ℕ) (olds : List Stamp) (befores pages : List (List ℕ)) (stamps : List Stamp) (writes : List PageWrite) (gone : List Stamp) → Plans place olds befores pages stamps writes gone → AreFrom place pages writes
plan_from place olds befores pages stamps writes gone ends = tt
plan_from place olds befores pages stamps writes gone (keeps old page p) = one_before place page _ writes (plan_from _ _ _ _ _ _ _ p)
plan_from place olds befores pages stamps writes gone (replaces old stamp before page write later other at bytes p) =
    ((0, omega (arith, at), ap (λ b. Some b) (sym bytes)), one_before place page _ later (plan_from _ _ _ _ _ _ _ p))
plan_from place olds befores pages stamps writes gone (adds stamp page write later at bytes p) =
    ((0, omega (arith, at), ap (λ b. Some b) (sym bytes)), one_before place page _ later (plan_from _ _ _ _ _ _ _ p))

pub of_all : (pages : List (List ℕ)) (writes : List PageWrite) → AreFrom 0 pages writes → AreOf pages writes
of_all pages [] are = tt
of_all pages (write ∷ writes) are =
    let at : are.0.0 ≡ write.place = omega (arith, are.0.1) in
    (subst (λ j. slice_get pages j ≡ Some write.bytes) at are.0.2, of_all pages writes are.1)

module _ (Good : ℕ → Stamp → List ℕ → Type 0) where
  -- a plan for a whole part
  pub plan_renews : (olds : List Stamp) (befores pages : List (List ℕ)) (stamps : List Stamp) (writes : List PageWrite) (gone : List Stamp) → Plans 0 olds befores pages stamps writes gone → GoodFrom Good 0 olds befores → Renews Good pages stamps writes
  plan_renews olds befores pages stamps writes gone p good = record {
    each = λ k stamp bytes there is. subst (λ n. Good n stamp bytes ⊎ IsWritten writes n bytes) (omega arith) (plan_each Good 0 olds befores pages stamps writes gone p good k stamp bytes there is);
    many = plan_many 0 olds befores pages stamps writes gone p;
    of = of_all pages writes (plan_from 0 olds befores pages stamps writes gone p);
  }

  -- one page more is written
  pub renews_one : (pages : List (List ℕ)) (stamps : List Stamp) (write : PageWrite) (writes : List PageWrite) (new : Stamp) → Good write.place new write.bytes → Renews Good pages stamps (write ∷ writes) → Renews Good pages (slice_set stamps write.place new) writes
  renews_one pages stamps write writes new good so = record {
    each = each;
    many = set_long stamps write.place new ∙ so.many;
    of = so.of.1;
  } where
    here : (stamp : Stamp) (bytes : List ℕ) → slice_get (slice_set stamps write.place new) write.place ≡ Some stamp → slice_get pages write.place ≡ Some bytes → Good write.place stamp bytes
    here stamp bytes there is =
        let low : write.place < length stamps = omega (arith, within pages write.place write.bytes so.of.0, so.many) in
        let s : new ≡ stamp = some_same (sym (set_same stamps write.place new low) ∙ there) in
        let b : write.bytes ≡ bytes = some_same (sym so.of.0 ∙ is) in
        subst (λ x. Good write.place x bytes) s (subst (Good write.place new) b good)

    elsewhere : (k : ℕ) (bytes : List ℕ) (X : Type 0) → (k ≡ write.place → ⊥) → X ⊎ IsWritten (write ∷ writes) k bytes → X ⊎ IsWritten writes k bytes
    elsewhere k bytes X other (inl x) = inl x
    elsewhere k bytes X other (inr (inl w)) = absurd (other (sym w.0))
    elsewhere k bytes X other (inr (inr w)) = inr w

    each : (k : ℕ) (stamp : Stamp) (bytes : List ℕ) → slice_get (slice_set stamps write.place new) k ≡ Some stamp → slice_get pages k ≡ Some bytes → Good k stamp bytes ⊎ IsWritten writes k bytes
    each k stamp bytes there is = elim (cases_eq k write.place) [
      | inl same ↦ inl (subst (λ n. Good n stamp bytes) (sym same) (here stamp bytes (subst (λ n. slice_get (slice_set stamps write.place new) n ≡ Some stamp) same there) (subst (λ n. slice_get pages n ≡ Some bytes) same is)))
      | inr other ↦ elsewhere k bytes (Good k stamp bytes) other (so.each k stamp bytes (sym (set_other stamps write.place k new other) ∙ there) is)
    ]

  -- what is sealed is good at its place
  abbrev pub SealedGood : List PageWrite → List Stamp → Type 0
  SealedGood [] sealed = Unit {0}
  SealedGood (write ∷ writes) [] = ⊥
  SealedGood (write ∷ writes) (stamp ∷ sealed) = Good write.place stamp write.bytes × SealedGood writes sealed

  -- all pages are written
  pub renews_all : (pages : List (List ℕ)) (stamps : List Stamp) (writes : List PageWrite) (sealed : List Stamp) → SealedGood writes sealed → Renews Good pages stamps writes → Renews Good pages (with_sealed stamps writes sealed) []
  renews_all pages stamps [] sealed good so = so
  renews_all pages stamps (write ∷ writes) [] good so = absurd good
  renews_all pages stamps (write ∷ writes) (stamp ∷ sealed) good so = renews_all pages (slice_set stamps write.place stamp) writes sealed good.1 (renews_one pages stamps write writes stamp good.0 so)

-- pages that are all there
pub are_pages : (a : Assignment) (stamps : List Stamp) (pages : List (List ℕ)) → length stamps ≡ length pages
    → ((k : ℕ) (stamp : Stamp) (bytes : List ℕ) → slice_get stamps k ≡ Some stamp → slice_get pages k ≡ Some bytes → IsPage a stamp bytes) → ArePages a stamps pages
are_pages a [] [] many each = tt
are_pages a [] (bytes ∷ rest) many each = absurd (omega (arith, many))
are_pages a (stamp ∷ more) [] many each = absurd (omega (arith, many))
are_pages a (stamp ∷ more) (bytes ∷ rest) many each = (each 0 stamp bytes refl refl, are_pages a more rest (omega (arith, many)) (λ k s b there is. each (suc k) s b there is))

-- the old pages are good from each place on
pub pages_good : (a : Assignment) (place : ℕ) (olds : List Stamp) (befores : List (List ℕ)) → ArePages a olds befores → GoodFrom (λ k stamp bytes. IsPage a stamp bytes) place olds befores
pages_good a place [] befores are = tt
pages_good a place (old ∷ olds) [] are = tt
pages_good a place (old ∷ olds) (before ∷ befores) are = (are.0, pages_good a (place + 1) olds befores are.1)

-- what holds what was to be written is good
pub sealed_good : (a : Assignment) (writes : List PageWrite) (sealed : List Stamp) → AreSealed a writes sealed → length writes ≤ length sealed → SealedGood (λ k stamp bytes. IsPage a stamp bytes) writes sealed
sealed_good a [] sealed are all = tt
sealed_good a (write ∷ writes) [] are all = absurd (omega (arith, all))
sealed_good a (write ∷ writes) (stamp ∷ sealed) are all = (holds_page a stamp write.bytes are.0, sealed_good a writes sealed are.1 (omega (arith, all)))

-- the places of the writes of a plan are those of stamps
places_from : (place count : ℕ) (pages : List (List ℕ)) (writes : List PageWrite) → AreFrom place pages writes → place + length pages ≤ count → ArePlaces count writes
places_from place count pages [] are low = tt
places_from place count pages (write ∷ writes) are low = (omega (arith, are.0.1, within pages are.0.0 write.bytes are.0.2, low), places_from place count pages writes are.1 low)

pub plan_places : (place : ℕ) (olds : List Stamp) (befores pages : List (List ℕ)) (stamps : List Stamp) (writes : List PageWrite) (gone : List Stamp) (count : ℕ) → Plans place olds befores pages stamps writes gone → place + length stamps ≤ count → ArePlaces count writes
plan_places place olds befores pages stamps writes gone count p low = places_from place count pages writes (plan_from place olds befores pages stamps writes gone p) (omega (arith, plan_many place olds befores pages stamps writes gone p, low))
