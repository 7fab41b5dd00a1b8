-- Where the stamps of new page lists come from.
use Rattle.std.proofs.Common.{◌≡◌, ℕ, zero, suc, ◌+◌, ◌<◌, ◌≤◌, ◌==◌, ◌⊎◌, inl, inr, Bool, true, false, if◌then◌else◌, List, [], ◌∷◌, ◌++◌, length, take, drop, Option, Some, None, refl, sym, ap, ◌∙◌, subst, arith}
use Rattle.std.specs.Prelude.{slice_get, slice_set}
use Rattle.std.proofs.lemmas.Bool.{cases_eq, eqb-true}
use Rattle.device_core.specs.declared.hand.Stamp.{Stamp}
use Rattle.page_core.specs.declared.plan.PageWrite.{PageWrite}
use Rattle.page_core.specs.Bytes.{split_by}
use Rattle.page_core.specs.Cut.{lengths}
use Rattle.page_core.specs.Plans.{Plans, ends, keeps, replaces, adds}
use Rattle.page_core.specs.Laws.{PartRenewal, ArePlanned, no_part, one_part}
use Rattle.page_core.specs.PartPins.{PartPin, pin_at, pins_by}
use Rattle.page_core.specs.Renewed.{with_sealed, IsIn}
use Rattle.page_core.proofs.ListBytes.{some_same}
use Rattle.page_core.proofs.Renewing.{plan_many, set_same, set_other, set_long, within}
use Rattle.run_core.specs.declared.judge.Change.{Change}
use Rattle.run_core.specs.Laws.{NewPinsAreOldOrSealed}
use Rattle.run_core.specs.CallPlanned.{AreRenewals, same, renewed}
use Rattle.run_core.specs.CallPlanned.{no_part as no_change}

-- old stamps, in as many places as the new list has
abbrev padded : ℕ → List Stamp → List (Option Stamp)
padded zero olds = []
padded (suc n) [] = None ∷ padded n []
padded (suc n) (old ∷ olds) = Some old ∷ padded n olds

padded_long : (n : ℕ) (olds : List Stamp) → length (padded n olds) ≡ n
padded_long zero olds = refl
padded_long (suc n) [] = omega (arith, padded_long n [])
padded_long (suc n) (old ∷ olds) = omega (arith, padded_long n olds)

padded_get : (n k : ℕ) (olds : List Stamp) (more : List (Option Stamp)) (stamp : Stamp) → k < n → slice_get (padded n olds ++ more) k ≡ Some (Some stamp) → slice_get olds k ≡ Some stamp
padded_get zero k olds more stamp less is = absurd (omega (arith, less))
padded_get (suc n) zero [] more stamp less is = absurd (let none : None ≡ Some stamp = some_same is in cc)
padded_get (suc n) zero (old ∷ olds) more stamp less is = some_same is
padded_get (suc n) (suc k) [] more stamp less is = absurd (let none : None ≡ Some stamp = padded_get n k [] more stamp (omega (arith, less)) is in cc)
padded_get (suc n) (suc k) (old ∷ olds) more stamp less is = padded_get n k olds more stamp (omega (arith, less)) is

-- the old stamps of all parts
abbrev was : List PartRenewal → List (Option Stamp)
was [] = []
was (part ∷ rest) = padded (length part.pages) part.olds ++ was rest

-- one of these writes is of this place
abbrev HasPlace : List PageWrite → ℕ → Type 0
HasPlace [] k = ⊥
HasPlace (write ∷ writes) k = (write.place ≡ k) ⊎ HasPlace writes k

more_placed : (X : Type 0) (write : PageWrite) (writes : List PageWrite) (k : ℕ) → X ⊎ HasPlace writes k → X ⊎ HasPlace (write ∷ writes) k
more_placed X write writes k (inl x) = inl x
more_placed X write writes k (inr w) = inr (inr w)

first_placed : (writes more : List PageWrite) (k : ℕ) → HasPlace writes k → HasPlace (writes ++ more) k
first_placed [] more k w = absurd w
first_placed (write ∷ writes) more k (inl w) = inl w
first_placed (write ∷ writes) more k (inr w) = inr (first_placed writes more k w)

second_placed : (writes more : List PageWrite) (k : ℕ) → HasPlace more k → HasPlace (writes ++ more) k
second_placed [] more k w = w
second_placed (write ∷ writes) more k w = inr (second_placed writes more k w)

-- each stamp of a row, counted from this place, stood there before, or a page is written there
abbrev EachWas : ℕ → List Stamp → List (Option Stamp) → List PageWrite → Type 0
EachWas place stamps befores writes = (k : ℕ) (stamp : Stamp) → slice_get stamps k ≡ Some stamp → (slice_get befores k ≡ Some (Some stamp)) ⊎ HasPlace writes (place + k)

plan_was : (place : ℕ) (olds : List Stamp) (befores pages : List (List ℕ)) (stamps : List Stamp) (writes : List PageWrite) (gone : List Stamp) → Plans place olds befores pages stamps writes gone → EachWas place stamps (padded (length pages) olds) writes
plan_was place olds befores pages stamps writes gone ends k stamp there = absurd cc
plan_was place olds befores pages stamps writes gone (keeps old page p) zero stamp there = inl (ap (λ o. Some o) there)
plan_was place olds befores pages stamps writes gone (keeps {olds = others} {pages = more} old page p) (suc k) stamp there =
    let at : (place + 1) + k ≡ place + suc k = omega arith in
    subst (λ n. (slice_get (padded (length more) others) k ≡ Some (Some stamp)) ⊎ HasPlace writes n) at (plan_was (place + 1) _ _ _ _ _ _ p k stamp there)
plan_was place olds befores pages stamps writes gone (replaces old new before page write later other here bytes p) zero stamp there = inr (inl (omega (arith, here)))
plan_was place olds befores pages stamps writes gone (replaces {olds = others} {pages = more} old new before page write later other here bytes p) (suc k) stamp there =
    let at : (place + 1) + k ≡ place + suc k = omega arith in
    more_placed (slice_get (padded (length more) others) k ≡ Some (Some stamp)) write later (place + suc k)
    (subst (λ n. (slice_get (padded (length more) others) k ≡ Some (Some stamp)) ⊎ HasPlace later n) at (plan_was (place + 1) _ _ _ _ _ _ p k stamp there))
plan_was place olds befores pages stamps writes gone (adds new page write later here bytes p) zero stamp there = inr (inl (omega (arith, here)))
plan_was place olds befores pages stamps writes gone (adds {pages = more} new page write later here bytes p) (suc k) stamp there =
    let at : (place + 1) + k ≡ place + suc k = omega arith in
    more_placed (slice_get (padded (length more) []) k ≡ Some (Some stamp)) write later (place + suc k)
    (subst (λ n. (slice_get (padded (length more) []) k ≡ Some (Some stamp)) ⊎ HasPlace later n) at (plan_was (place + 1) _ _ _ _ _ _ p k stamp there))

behind_was : (place : ℕ) (stamps more : List Stamp) (befores others : List (Option Stamp)) (writes : List PageWrite) → length stamps ≡ length befores
    → EachWas place stamps befores writes → EachWas (place + length stamps) more others writes → EachWas place (stamps ++ more) (befores ++ others) writes
behind_was place [] more [] others writes many one two k stamp there = subst (λ n. (slice_get others k ≡ Some (Some stamp)) ⊎ HasPlace writes n) (omega arith) (two k stamp there)
behind_was place [] more (b ∷ befores) others writes many one two k stamp there = absurd (omega (arith, many))
behind_was place (s ∷ stamps) more [] others writes many one two k stamp there = absurd (omega (arith, many))
behind_was place (s ∷ stamps) more (b ∷ befores) others writes many one two zero stamp there = one zero stamp there
behind_was place (s ∷ stamps) more (b ∷ befores) others writes many one two (suc k) stamp there =
    subst (λ n. (slice_get (befores ++ others) k ≡ Some (Some stamp)) ⊎ HasPlace writes n) (omega arith)
    (behind_was (place + 1) stamps more befores others writes (omega (arith, many))
    (λ j x at. subst (λ n. (slice_get befores j ≡ Some (Some x)) ⊎ HasPlace writes n) (omega arith) (one (suc j) x at))
    (λ j x at. subst (λ n. (slice_get others j ≡ Some (Some x)) ⊎ HasPlace writes n) (omega arith) (two j x at)) k stamp there)

wider : (place : ℕ) (stamps : List Stamp) (befores : List (Option Stamp)) (writes more : List PageWrite) → ((k : ℕ) → HasPlace writes k → HasPlace more k) → EachWas place stamps befores writes → EachWas place stamps befores more
wider place stamps befores writes more all each k stamp there = elim (each k stamp there) [ inl old ↦ inl old | inr w ↦ inr (all (place + k) w) ]

planned_was : (place : ℕ) (parts : List PartRenewal) (stamps : List Stamp) (writes : List PageWrite) (gone : List Stamp) → ArePlanned place parts stamps writes gone → EachWas place stamps (was parts) writes
planned_was place parts stamps writes gone no_part = λ k stamp there. absurd cc
planned_was place parts stamps writes gone (one_part part rest size first second first_writes second_writes first_gone second_gone cut plan behind) =
    let many : length first ≡ length part.pages = plan_many place part.olds (split_by (lengths part.olds) part.before) part.pages first first_writes first_gone plan in
    behind_was place first second (padded (length part.pages) part.olds) (was rest) (first_writes ++ second_writes) (many ∙ sym (padded_long (length part.pages) part.olds))
    (wider place first (padded (length part.pages) part.olds) first_writes (first_writes ++ second_writes) (first_placed first_writes second_writes) (plan_was place part.olds (split_by (lengths part.olds) part.before) part.pages first first_writes first_gone plan))
    (wider (place + length first) second (was rest) second_writes (first_writes ++ second_writes) (second_placed first_writes second_writes) (planned_was (place + length first) rest second second_writes second_gone behind))

-- a stamp that stands in its place stood there before, or was sealed
abbrev IsKnown : List (Option Stamp) → List Stamp → ℕ → Stamp → Type 0
IsKnown befores sealed k stamp = (slice_get befores k ≡ Some (Some stamp)) ⊎ IsIn stamp sealed

sealed_was : (befores : List (Option Stamp)) (all stamps : List Stamp) (writes : List PageWrite) (sealed : List Stamp) → length writes ≤ length sealed → ((s : Stamp) → IsIn s sealed → IsIn s all)
    → ((k : ℕ) (stamp : Stamp) → slice_get stamps k ≡ Some stamp → IsKnown befores all k stamp ⊎ HasPlace writes k) → (k : ℕ) (stamp : Stamp) → slice_get (with_sealed stamps writes sealed) k ≡ Some stamp → IsKnown befores all k stamp
sealed_was befores all stamps [] sealed many among each = λ k stamp there. elim (each k stamp there) [ inl known ↦ known | inr w ↦ absurd w ]
sealed_was befores all stamps (write ∷ writes) [] many among each = absurd (omega (arith, many))
sealed_was befores all stamps (write ∷ writes) (new ∷ sealed) many among each =
    sealed_was befores all (slice_set stamps write.place new) writes sealed (omega (arith, many)) (λ s is. among s (inr is)) step where
      strip : (X : Type 0) (k : ℕ) → (k ≡ write.place → ⊥) → X ⊎ HasPlace (write ∷ writes) k → X ⊎ HasPlace writes k
      strip X k other (inl x) = inl x
      strip X k other (inr (inl w)) = absurd (other (sym w))
      strip X k other (inr (inr w)) = inr w

      here : (k : ℕ) (stamp : Stamp) → k ≡ write.place → slice_get (slice_set stamps write.place new) k ≡ Some stamp → IsKnown befores all k stamp
      here k stamp at there =
          let low : write.place < length stamps = omega (arith, at, within (slice_set stamps write.place new) k stamp there, set_long stamps write.place new) in
          let there2 : slice_get (slice_set stamps write.place new) write.place ≡ Some stamp = subst (λ n. slice_get (slice_set stamps write.place new) n ≡ Some stamp) at there in
          inr (among stamp (inl (some_same (sym (set_same stamps write.place new low) ∙ there2))))

      step : (k : ℕ) (stamp : Stamp) → slice_get (slice_set stamps write.place new) k ≡ Some stamp → IsKnown befores all k stamp ⊎ HasPlace writes k
      step k stamp there = elim (cases_eq k write.place) [
        | inl at ↦ inl (here k stamp at there)
        | inr other ↦ strip (IsKnown befores all k stamp) k other (each k stamp (sym (set_other stamps write.place k new other) ∙ there))
      ]

-- what stands in the front of a row, and behind it
get_take : (n k : ℕ) (xs : List Stamp) (x : Stamp) → slice_get (take n xs) k ≡ Some x → (slice_get xs k ≡ Some x) × (k < n)
get_take zero k xs x is = absurd cc
get_take (suc n) k [] x is = absurd cc
get_take (suc n) zero (y ∷ ys) x is = (is, omega arith)
get_take (suc n) (suc k) (y ∷ ys) x is = let rest = get_take n k ys x is in (rest.0, omega (arith, rest.1))

one_on : (n j : ℕ) → suc (n + j) ≡ suc n + j
one_on n j = omega arith

get_drop : (n j : ℕ) (xs : List Stamp) (x : Stamp) → slice_get (drop n xs) j ≡ Some x → slice_get xs (n + j) ≡ Some x
get_drop zero j xs x is = let at : j ≡ 0 + j = omega arith in subst (λ m. slice_get xs m ≡ Some x) at is
get_drop (suc n) j [] x is = absurd cc
get_drop (suc n) j (y ∷ ys) x is = subst (λ m. slice_get (y ∷ ys) m ≡ Some x) (one_on n j) (get_drop n j ys x is)

get_behind : (xs ys : List (Option Stamp)) (j : ℕ) → slice_get (xs ++ ys) (length xs + j) ≡ slice_get ys j
get_behind [] ys j = let at : 0 + j ≡ j = omega arith in ap (slice_get ys) at
get_behind (x ∷ xs) ys j = ap (slice_get (x ∷ (xs ++ ys))) (sym (one_on (length xs) j)) ∙ get_behind xs ys j

-- a stamp of the new list of a part stood at the same place of its pin, or was sealed
abbrev IsOldOrNew : List PartPin → List Stamp → ℕ → ℕ → Stamp → Type 0
IsOldOrNew pins sealed p k stamp = ((olds : List Stamp) × (pin_at pins p ≡ Some olds) × (slice_get olds k ≡ Some stamp)) ⊎ IsIn stamp sealed

old_at : (pins : List PartPin) (read : List (List ℕ)) (sealed : List Stamp) (p k : ℕ) (pages : List Stamp) (stamp : Stamp) (from : ℕ) (changes : List Change) (parts : List PartRenewal) (counts : List ℕ) (row : List Stamp) → AreRenewals pins read from changes parts counts
    → ((j : ℕ) (s : Stamp) → slice_get row j ≡ Some s → IsKnown (was parts) sealed j s) → pin_at (pins_by from counts row) p ≡ Some pages → slice_get pages k ≡ Some stamp → IsOldOrNew pins sealed p k stamp
old_at pins read sealed p k pages stamp from changes parts counts row no_change each pin there = absurd cc
old_at pins read sealed p k pages stamp from changes parts counts row (same changes1 parts1 rest r) each pin there = old_at pins read sealed p k pages stamp (from + 1) changes parts rest row r each pin there
old_at pins read sealed p k pages stamp from changes parts counts row (renewed change part changes1 parts1 rest count at is counted r) each pin there =
    with_count count counted pin (λ others known is_pin. old_at pins read sealed p k pages stamp (from + 1) changes1 parts1 rest others r known is_pin there) where
      here : (n : ℕ) → suc n ≡ length part.pages → from ≡ p → Some (take (suc n) row) ≡ Some pages → IsOldOrNew pins sealed p k stamp
      here n many part_is pages_are =
          let got = get_take (suc n) k row stamp (subst (λ (l : List Stamp). slice_get l k ≡ Some stamp) (sym (some_same pages_are)) there) in
          elim (each k stamp got.0) [
            | inl old ↦ inl (part.olds, ap (pin_at pins) (sym part_is ∙ sym at) ∙ is.pinned, padded_get (length part.pages) k part.olds (was parts1) stamp (omega (arith, got.1, many)) old)
            | inr new ↦ inr new
          ]

      shifted : (n j : ℕ) → suc n ≡ length part.pages → slice_get (was (part ∷ parts1)) (suc n + j) ≡ slice_get (was parts1) j
      shifted n j many =
          let front : suc n + j ≡ length (padded (length part.pages) part.olds) + j = omega (arith, many, padded_long (length part.pages) part.olds) in
          ap (slice_get (was (part ∷ parts1))) front ∙ get_behind (padded (length part.pages) part.olds) (was parts1) j

      behind_known : (n : ℕ) → suc n ≡ length part.pages → (j : ℕ) (s : Stamp) → slice_get (drop (suc n) row) j ≡ Some s → IsKnown (was parts1) sealed j s
      behind_known n many j s at_j = elim (each (suc n + j) s (get_drop (suc n) j row s at_j)) [ inl old ↦ inl (sym (shifted n j many) ∙ old) | inr new ↦ inr new ]

      choice : (n : ℕ) → suc n ≡ length part.pages → (b : Bool) → (from == p) ≡ b → (if b then Some (take (suc n) row) else pin_at (pins_by (from + 1) rest (drop (suc n) row)) p) ≡ Some pages
          → ((others : List Stamp) → ((j : ℕ) (s : Stamp) → slice_get others j ≡ Some s → IsKnown (was parts1) sealed j s) → pin_at (pins_by (from + 1) rest others) p ≡ Some pages → IsOldOrNew pins sealed p k stamp) → IsOldOrNew pins sealed p k stamp
      choice n many true test is_pin behind = here n many (eqb-true from p test) is_pin
      choice n many false test is_pin behind = behind (drop (suc n) row) (behind_known n many) is_pin

      with_count : (n : ℕ) → n ≡ length part.pages → pin_at (pins_by from (n ∷ rest) row) p ≡ Some pages
          → ((others : List Stamp) → ((j : ℕ) (s : Stamp) → slice_get others j ≡ Some s → IsKnown (was parts1) sealed j s) → pin_at (pins_by (from + 1) rest others) p ≡ Some pages → IsOldOrNew pins sealed p k stamp) → IsOldOrNew pins sealed p k stamp
      with_count zero none is_pin behind = absurd (omega (arith, none, is.some))
      with_count (suc n) many is_pin behind = choice n many (from == p) refl is_pin behind

pub new_pins_are_old_or_sealed : NewPinsAreOldOrSealed
new_pins_are_old_or_sealed pins read changes sealed news gone new p k pages stamp pin there =
    let row = with_sealed new.stamps new.writes sealed in
    let first : EachWas 0 new.stamps (was new.planned.parts) new.writes = planned_was 0 new.planned.parts new.stamps new.writes gone new.planned.plans in
    let each : (j : ℕ) (s : Stamp) → slice_get new.stamps j ≡ Some s → IsKnown (was new.planned.parts) sealed j s ⊎ HasPlace new.writes j =
    λ j s at. elim (first j s at) [ inl old ↦ inl (inl old) | inr w ↦ inr (subst (HasPlace new.writes) (let same : 0 + j ≡ j = omega arith in same) w) ] in
    old_at pins read sealed p k pages stamp 0 changes new.planned.parts new.counts row new.planned.renewals
    (sealed_was (was new.planned.parts) sealed new.stamps new.writes sealed (omega (arith, new.all)) (λ s is. is) each)
    (ap (λ (l : List PartPin). pin_at l p) (sym new.news_are) ∙ pin) there
