-- What was read of a part, page by page.
use Rattle.std.proofs.Common.{◌≡◌, ℕ, zero, suc, ◌+◌, ◌≤◌, List, [], ◌∷◌, ◌++◌, length, take, Option, Some, None, slice_get, refl, sym, ap, ◌∙◌, subst, arith, append_assoc}
use Rattle.std.proofs.lemmas.List.{take_all, append-nil}
use Rattle.device_core.specs.Device.{Assignment, IsWhole, bytes_of}
use Rattle.device_core.specs.declared.hand.Stamp.{Stamp}
use Rattle.page_core.specs.Bytes.{one_behind, list_bytes, AreWhole, IsPage}
use Rattle.page_core.specs.PartPins.{pin_at}
use Rattle.page_core.proofs.ListBytes.{some_same}
use Rattle.page_core.specs.CallPins.{Call}
use Rattle.run_core.specs.Read.{PinIsRead}
use Rattle.run_core.specs.Seen.{IsPaged, IsPartRead}
use Rattle.run_core.specs.Seen.{IsFront as IsFirst}
use Rattle.run_core.specs.Phases.{IsFront}

-- some bytes in front of a list whose bytes are there
front_bytes : (a : Assignment) (page : Stamp) (more : List Stamp) (got : List ℕ) → one_behind (bytes_of a page) (list_bytes a more) ≡ Some got → (b : List ℕ) × (r : List ℕ) × (bytes_of a page ≡ Some b) × (list_bytes a more ≡ Some r) × (b ++ r ≡ got)
front_bytes a page more got is = split (bytes_of a page) (list_bytes a more) refl refl is where
  split : (first rest : Option (List ℕ)) → bytes_of a page ≡ first → list_bytes a more ≡ rest → one_behind (bytes_of a page) (list_bytes a more) ≡ Some got → (b : List ℕ) × (r : List ℕ) × (bytes_of a page ≡ Some b) × (list_bytes a more ≡ Some r) × (b ++ r ≡ got)
  split None rest first_is rest_is all = absurd (let e : None ≡ Some got = sym (ap (λ o. one_behind o (list_bytes a more)) first_is) ∙ all in cc)
  split (Some b) None first_is rest_is all = absurd (let e : None ≡ Some got = sym (ap (one_behind (Some b)) rest_is) ∙ sym (ap (λ o. one_behind o (list_bytes a more)) first_is) ∙ all in cc)
  split (Some b) (Some r) first_is rest_is all = (b, r, first_is, rest_is, some_same (sym (ap (one_behind (Some b)) rest_is) ∙ sym (ap (λ o. one_behind o (list_bytes a more)) first_is) ∙ all))

-- one page more
front_more : (a : Assignment) (pages : List Stamp) (k : ℕ) (page : Stamp) (got bytes : List ℕ) → slice_get pages k ≡ Some page → IsPage a page bytes → IsFront a pages k got → IsFront a pages (suc k) (got ++ bytes)
front_more a [] k page got bytes at is front = absurd cc
front_more a (p ∷ pages) zero page got bytes at is front =
    let none : [] ≡ got = some_same front.0 in
    let same : page ≡ p = some_same (sym at) in
    let there : bytes_of a p ≡ Some bytes = ap (bytes_of a) (sym same) ∙ is.there in
    let all : bytes ++ [] ≡ got ++ bytes = append-nil bytes ∙ ap (λ (g : List ℕ). g ++ bytes) none in
    (ap (λ o. one_behind o (Some [])) there ∙ ap (λ b. Some b) all, (subst (IsWhole a) same is.whole, tt))
front_more a (p ∷ pages) (suc k) page got bytes at is front =
    let split = front_bytes a p (take k pages) got front.0 in
    let rest : IsFront a pages (suc k) (split.1 ++ bytes) = front_more a pages k page split.1 bytes at is (split.3, front.1.1) in
    (ap (λ o. one_behind o (list_bytes a (take (suc k) pages))) split.2 ∙ ap (one_behind (Some split.0)) rest.0 ∙ ap (λ b. Some b) (sym (append_assoc split.0 split.1 bytes) ∙ ap (λ (g : List ℕ). g ++ bytes) split.4), (front.1.0, rest.1))

pub front_on : (a : Assignment) (pages : List Stamp) (k next : ℕ) (page : Stamp) (got new bytes : List ℕ) → next ≡ k + 1 → new ≡ got ++ bytes → slice_get pages k ≡ Some page → IsPage a page bytes → IsFront a pages k got → IsFront a pages next new
front_on a pages k next page got new bytes more grown at is front =
    let one : suc k ≡ next = omega (arith, more) in
    subst (λ n. IsFront a pages n new) one (subst (λ (g : List ℕ). IsFront a pages (suc k) g) (sym grown) (front_more a pages k page got bytes at is front))

pub reading_on : (a : Assignment) (call : Call) (part k next : ℕ) (page : Stamp) (got new bytes : List ℕ) (known : List Stamp) → pin_at call.pins part ≡ Some known → slice_get known k ≡ Some page → next ≡ k + 1 → new ≡ got ++ bytes → IsPage a page bytes
    → ((pages : List Stamp) → pin_at call.pins part ≡ Some pages → IsFront a pages k got) → (pages : List Stamp) → pin_at call.pins part ≡ Some pages → IsFront a pages next new
reading_on a call part k next page got new bytes known known_pin at more grown is front pages pin =
    front_on a pages k next page got new bytes more grown (subst (λ (l : List Stamp). slice_get l k ≡ Some page) (some_same (sym known_pin ∙ pin)) at) is (front pages pin)

-- nothing is read of a list
pub front_none : (a : Assignment) (pages : List Stamp) (got : List ℕ) → got ≡ [] → IsFront a pages 0 got
front_none a pages got none = subst (λ (g : List ℕ). IsFront a pages 0 g) (sym none) (refl, tt)

-- after the last page they are the bytes under the pin
pub whole_part : (a : Assignment) (call : Call) (part : ℕ) (pages : List Stamp) (k next : ℕ) (page : Stamp) (got new bytes : List ℕ) → pin_at call.pins part ≡ Some pages → next ≡ k + 1 → length pages ≤ next → new ≡ got ++ bytes → slice_get pages k ≡ Some page → IsPage a page bytes
    → IsFront a pages k got → PinIsRead a call.pins part new
whole_part a call part pages k next page got new bytes pin more all grown at is front =
    let last : IsFront a pages next new = front_on a pages k next page got new bytes more grown at is front in
    (pages, pin, ap (list_bytes a) (sym (take_all next pages all)) ∙ last.0, subst (AreWhole a) (take_all next pages all) last.1)

-- after the last page that is read at first they are what was read of the part
pub part_is_read : (a : Assignment) (call : Call) (part : ℕ) (pages : List Stamp) (k next : ℕ) (page : Stamp) (got new bytes : List ℕ) → pin_at call.pins part ≡ Some pages → next ≡ k + 1 → ((IsFirst call part k → ⊥) → length pages ≤ next) → new ≡ got ++ bytes → slice_get pages k ≡ Some page → IsPage a page bytes
    → IsFront a pages k got → IsPartRead a call part k new
part_is_read a call part pages k next page got new bytes pin more all grown at is front = record {
  first = λ first pages1 stamp pin1 at1.
      let none : [] ≡ got = some_same (subst (λ n. list_bytes a (take n pages) ≡ Some got) first.1 front.0) in
      let same : pages ≡ pages1 = some_same (sym pin ∙ pin1) in
      let stamps : page ≡ stamp = some_same (sym at ∙ ap (slice_get pages) first.1 ∙ ap (λ (l : List Stamp). slice_get l 0) same ∙ at1) in
      subst (IsPage a stamp) (ap (λ (g : List ℕ). g ++ bytes) none ∙ sym grown) (subst (λ s. IsPage a s bytes) stamps is);
  whole = λ later. whole_part a call part pages k next page got new bytes pin more (all later) grown at is front;
}

-- the first page of a part that is read page by page
pub first_is_read : (a : Assignment) (call : Call) (part : ℕ) (pages : List Stamp) (page : Stamp) (got new bytes : List ℕ) → IsPaged call part → pin_at call.pins part ≡ Some pages → got ≡ [] → new ≡ got ++ bytes → slice_get pages 0 ≡ Some page → IsPage a page bytes → IsPartRead a call part 0 new
first_is_read a call part pages page got new bytes paged pin none grown at is = part_is_read a call part pages 0 1 page got new bytes pin refl (λ later. absurd (later (paged, refl))) grown at is (front_none a pages got none)

-- all pages of a part that is not, or of one that has none
pub list_is_read : (a : Assignment) (call : Call) (part : ℕ) (pages : List Stamp) (got new bytes : List ℕ) → pin_at call.pins part ≡ Some pages → got ≡ [] → new ≡ got ++ bytes → (IsPaged call part → slice_get pages 0 ≡ None) → (list_bytes a pages ≡ Some bytes) × AreWhole a pages → IsPartRead a call part 0 new
list_is_read a call part pages got new bytes pin none grown empty told = record {
  first = λ first pages1 stamp pin1 at1. absurd (let e : None ≡ Some stamp = sym (empty first.0) ∙ ap (λ (l : List Stamp). slice_get l 0) (some_same (sym pin ∙ pin1)) ∙ at1 in cc);
  whole = λ later. (pages, pin, told.0 ∙ ap (λ b. Some b) (sym (grown ∙ ap (λ (g : List ℕ). g ++ bytes) none)), told.1);
}
