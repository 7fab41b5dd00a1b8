-- That each client is found by its name.
use Rattle.std.proofs.Common.{◌≡◌, ◌≢◌, ◌<◌, ◌≤◌, ℕ, length-append, ◌⊎◌, inl, inr, List, [], ◌∷◌, ◌++◌, length, Bool, true, false, cond, Option, Some, None, bytes_eq, refl, sym, ◌∙◌, ap, subst, arith}
use Rattle.std.specs.Prelude.{slice_get, slice_set, unwrap_or}
use Rattle.std.proofs.lemmas.Bool.{cases_eq}
use Rattle.std.proofs.lemmas.Slice.Eq.{bytes_eq-Decides}
use Rattle.guest_core.specs.declared.guest.Guest.{Guest}
use Rattle.guest_core.specs.Finds.{Finds}
use Rattle.guest_core.proofs.Items.{get_more, get_set, get_front, get_last, get_here, get_there, one_item}

-- the client that is found by a name has it
abbrev pub Found : List Guest → (List ℕ → Option ℕ) → Type 0
Found guests find = (name : List ℕ) (p : ℕ) → find name ≡ Some p → (g : Guest) × (slice_get guests p ≡ Some g) × (g.name ≡ name)

-- each client is found by its name
abbrev pub Known : List Guest → (List ℕ → Option ℕ) → Type 0
Known guests find = (p : ℕ) (g : Guest) → slice_get guests p ≡ Some g → find g.name ≡ Some p

pub which : (n q : List ℕ) → (n ≡ q) ⊎ (n ≢ q)
which n q = by (bytes_eq n q) refl
  where
    by : (b : Bool) → bytes_eq n q ≡ b → (n ≡ q) ⊎ (n ≢ q)
    by true is = inl ((bytes_eq-Decides n q).0 is)
    by false is = inr (λ same. let e = (bytes_eq-Decides n q).1 same in let f : true ≡ false = sym e ∙ is in cc)

own : (find new : List ℕ → Option ℕ) (name q : List ℕ) (at : Option ℕ) → Finds find name at new → name ≡ q → new q ≡ at
own find new name q at finds same = finds q ∙ ap (λ b. cond b at (find q)) ((bytes_eq-Decides name q).1 same)

others : (find new : List ℕ → Option ℕ) (name q : List ℕ) (at : Option ℕ) → Finds find name at new → name ≢ q → new q ≡ find q
others find new name q at finds other = finds q ∙ by (bytes_eq name q) refl
  where
    by : (b : Bool) → bytes_eq name q ≡ b → cond b at (find q) ≡ find q
    by true is = absurd (other ((bytes_eq-Decides name q).0 is))
    by false is = refl

same_place : (p q : ℕ) → Some p ≡ Some q → p ≡ q
same_place p q is = ap (λ o. unwrap_or o p) is

no_place : (p : ℕ) → None ≡ Some p → ⊥
no_place p is = cc

abbrev name_of : Guest → List ℕ
name_of g = g.name

-- a client of a new name
pub found_more : (guests : List Guest) (find new : List ℕ → Option ℕ) (g : Guest) → Found guests find → Finds find g.name (Some (length guests)) new → Found (guests ++ g ∷ []) new
found_more guests find new g found finds name p is = elim (which g.name name) [
  | inl same ↦ (g, subst (λ k. slice_get (guests ++ g ∷ []) k ≡ Some g) (same_place (length guests) p (sym (own find new g.name name (Some (length guests)) finds same) ∙ is)) (get_last guests g), same)
  | inr other ↦ let old = found name p (sym (others find new g.name name (Some (length guests)) finds other) ∙ is) in (old.0, get_front guests (g ∷ []) p old.0 old.1, old.2)
]

pub known_more : (guests : List Guest) (find new : List ℕ → Option ℕ) (g : Guest) → Known guests find → ((p : ℕ) (h : Guest) → slice_get guests p ≡ Some h → h.name ≢ g.name)
    → Finds find g.name (Some (length guests)) new → Known (guests ++ g ∷ []) new
known_more guests find new g known unknown finds p h is = elim (get_more guests g p h is) [
  | inl old ↦ others find new g.name h.name (Some (length guests)) finds (λ same. unknown p h old (sym same)) ∙ known p h old
  | inr last ↦ own find new g.name h.name (Some (length guests)) finds (ap name_of last.1) ∙ ap Some (sym last.0)
]

-- a client of a new name in the place of another one
pub found_other : (guests : List Guest) (find between new : List ℕ → Option ℕ) (p : ℕ) (f g : Guest) → Found guests find → slice_get guests p ≡ Some f
    → Finds find g.name (Some p) between → Finds between f.name None new → Found (slice_set guests p g) new
found_other guests find between new p f g found there first second name q is = elim (which f.name name) [
  | inl same ↦ absurd (no_place q (sym (own between new f.name name None second same) ∙ is))
  | inr other ↦ by other (sym (others between new f.name name None second other) ∙ is) (which g.name name)
]
  where
    by : f.name ≢ name → between name ≡ Some q → (g.name ≡ name) ⊎ (g.name ≢ name) → (h : Guest) × (slice_get (slice_set guests p g) q ≡ Some h) × (h.name ≡ name)
    by other at (inl same) = (g, subst (λ k. slice_get (slice_set guests p g) k ≡ Some g) (same_place p q (sym (own find between g.name name (Some p) first same) ∙ at)) (get_here guests p f g there), same)
    by other at (inr apart) =
        let old = found name q (sym (others find between g.name name (Some p) first apart) ∙ at) in
        (old.0, get_there guests p g q (λ same. other (ap name_of (one_item guests p f old.0 there (subst (λ k. slice_get guests k ≡ Some old.0) same old.1)) ∙ old.2)) ∙ old.1, old.2)

pub known_other : (guests : List Guest) (find between new : List ℕ → Option ℕ) (p : ℕ) (f g : Guest) → Known guests find → slice_get guests p ≡ Some f
    → ((q : ℕ) (h : Guest) → slice_get guests q ≡ Some h → h.name ≢ g.name) → Finds find g.name (Some p) between → Finds between f.name None new → Known (slice_set guests p g) new
known_other guests find between new p f g known there unknown first second q h is = elim (get_set guests p g q h is) [
  | inl here ↦ others between new f.name h.name None second (λ same. unknown p f there (same ∙ sym (ap name_of here.1))) ∙ own find between g.name h.name (Some p) first (ap name_of here.1) ∙ ap Some (sym here.0)
  | inr other ↦ others between new f.name h.name None second (λ same. other.0 (same_place q p (sym (known q h other.1) ∙ ap find (sym same) ∙ known p f there)))
      ∙ others find between g.name h.name (Some p) first (λ same. unknown q h other.1 (sym same)) ∙ known q h other.1
]

-- a client changes, and keeps its name
pub found_changed : (guests : List Guest) (find : List ℕ → Option ℕ) (p : ℕ) (g h : Guest) → Found guests find → slice_get guests p ≡ Some g → h.name ≡ g.name → Found (slice_set guests p h) find
found_changed guests find p g h found there same name q is =
    let old = found name q is in
    elim (cases_eq q p) [
      | inl here ↦ (
        h,
        subst (λ k. slice_get (slice_set guests p h) k ≡ Some h) (sym here) (get_here guests p g h there),
        same ∙ ap name_of (one_item guests p g old.0 there (subst (λ k. slice_get guests k ≡ Some old.0) here old.1)) ∙ old.2,
      )
      | inr other ↦ (old.0, get_there guests p h q other ∙ old.1, old.2)
    ]

pub known_changed : (guests : List Guest) (find : List ℕ → Option ℕ) (p : ℕ) (g h : Guest) → Known guests find → slice_get guests p ≡ Some g → h.name ≡ g.name → Known (slice_set guests p h) find
known_changed guests find p g h known there same q x is = elim (get_set guests p h q x is) [
  | inl here ↦ ap find (sym (ap name_of here.1) ∙ same) ∙ known p g there ∙ ap Some (sym here.0)
  | inr other ↦ known q x other.1
]

pub added : (items after : List Guest) (find new : List ℕ → Option ℕ) (g : Guest) (key name : List ℕ) (place : ℕ) → Found items find → Known items find → after ≡ items ++ g ∷ []
    → ((p : ℕ) (h : Guest) → slice_get items p ≡ Some h → h.name ≢ name) → key ≡ name → g.name ≡ name → place ≡ length items → Finds find key (Some place) new → Found after new × Known after new
added items after find new g key name place found known is unknown key_is named at finds =
    let here : Finds find g.name (Some (length items)) new = subst (λ p. Finds find g.name (Some p) new) at (subst (λ n. Finds find n (Some place) new) (key_is ∙ sym named) finds) in (
      subst (λ gs. Found gs new) (sym is) (found_more items find new g found here),
      subst (λ gs. Known gs new) (sym is) (known_more items find new g known (λ p h there same. unknown p h there (same ∙ named)) here),
    )

pub replaced : (items : List Guest) (find between new : List ℕ → Option ℕ) (p : ℕ) (f old g : Guest) (key name : List ℕ) → Found items find → Known items find → slice_get items p ≡ Some f → old ≡ f
    → ((q : ℕ) (h : Guest) → slice_get items q ≡ Some h → h.name ≢ name) → key ≡ name → g.name ≡ name → Finds find key (Some p) between → Finds between old.name None new
    → Found (slice_set items p g) new × Known (slice_set items p g) new
replaced items find between new p f old g key name found known there was unknown key_is named first second =
    let own_first : Finds find g.name (Some p) between = subst (λ n. Finds find n (Some p) between) (key_is ∙ sym named) first in
    let own_second : Finds between f.name None new = subst (λ (x : Guest). Finds between x.name None new) was second in (
      found_other items find between new p f g found there own_first own_second,
      known_other items find between new p f g known there (λ q h is same. unknown q h is (same ∙ named)) own_first own_second,
    )

pub one_longer : (items after : List Guest) (g : Guest) → after ≡ items ++ g ∷ [] → length items < 65535 → length after ≤ 65535
one_longer items after g is few = let e = ap length is in let f = length-append items (g ∷ []) in omega (arith, e, f, few)
