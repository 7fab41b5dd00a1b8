-- How many pages are not known.
use Rattle.std.proofs.Common.{◌≡◌, ◌≢◌, ℕ, zero, suc, ◌+◌, ◌-◌, ◌*◌, ◌<◌, ◌≤◌, ◌⊎◌, inl, inr, List, [], ◌∷◌, length, get_or, refl, ap, ◌∙◌, subst, arith}
use Rattle.std.specs.Prelude.{slice_index, slice_set}
use Rattle.std.specs.Int.{bit_at}
use Rattle.std.proofs.lemmas.Bool.{cases_lt}
use Rattle.std.proofs.lemmas.List.{get_or-set_same, get_or-set_other}
use Rattle.std.proofs.lemmas.List.Sums.{sum_by-set, sum_by-cons}
use Rattle.known_core.specs.Masks.{IsOneMore, missing, unread}

missing_same : (w m n : ℕ) → ((j : ℕ) → j < w → bit_at n j ≡ bit_at m j) → missing w n ≡ missing w m
missing_same zero m n same = refl
missing_same (suc w) m n same =
    let earlier = missing_same w m n (λ j less. same j (omega (arith, less))) in
    let last : bit_at n w ≡ bit_at m w = same w (omega arith) in
    ap (λ a. a + (1 - bit_at n w)) earlier ∙ ap (λ b. missing w m + (1 - b)) last

missing_one : (w k m n : ℕ) → k < w → bit_at m k ≡ 0 → bit_at n k ≡ 1 → ((j : ℕ) → j ≢ k → bit_at n j ≡ bit_at m j) → missing w n + 1 ≡ missing w m
missing_one zero k m n within clear set same = absurd (omega (arith, within))
missing_one (suc w) k m n within clear set same = by_place (missing_one w k m n) (cases_lt k w) where
  by_place : (k < w → bit_at m k ≡ 0 → bit_at n k ≡ 1 → ((j : ℕ) → j ≢ k → bit_at n j ≡ bit_at m j) → missing w n + 1 ≡ missing w m) → (k < w) ⊎ (w ≤ k) → missing (suc w) n + 1 ≡ missing (suc w) m
  by_place before (inl earlier) =
      let rest = before earlier clear set same in
      let last : bit_at n w ≡ bit_at m w = same w (λ is. absurd (omega (arith, earlier, is))) in
      omega (arith, rest, last)
  by_place before (inr late) =
      let here : k ≡ w = omega (arith, late, within) in
      let rest : missing w n ≡ missing w m = missing_same w m n (λ j less. same j (λ is. absurd (omega (arith, less, is, here)))) in
      let at_n : bit_at n w ≡ 1 = subst (λ j. bit_at n j ≡ 1) here set in
      let at_m : bit_at m w ≡ 0 = subst (λ j. bit_at m j ≡ 0) here clear in
      omega (arith, rest, at_n, at_m)

missing_few : (w m : ℕ) → missing w m ≤ w
missing_few zero m = omega arith
missing_few (suc w) m = omega (arith, missing_few w m)

pub unread_few : (masks : List ℕ) → unread masks ≤ 8 * length masks
unread_few [] = omega arith
unread_few (m ∷ masks) =
    let here : unread (m ∷ masks) ≡ missing 8 m + unread masks = sum_by-cons (missing 8) m masks in
    omega (arith, here, missing_few 8 m, unread_few masks)

-- a mask that is set
pub one_more : (masks : List ℕ) (p k new : ℕ) → p < length masks → bit_at new k ≡ 1 → ((j : ℕ) → j ≢ k → bit_at new j ≡ bit_at (slice_index masks p) j) → IsOneMore masks (slice_set masks p new) p k
one_more masks p k new within set same =
    let here : slice_index (slice_set masks p new) p ≡ new = get_or-set_same masks p new 0 within in
    record {
      set = ap (λ m. bit_at m k) here ∙ set;
      same = λ j other. ap (λ m. bit_at m j) here ∙ same j other;
      others = λ q other. get_or-set_other masks p q new 0 other;
    }

pub unread_falls : (masks : List ℕ) (p k new : ℕ) → p < length masks → k < 8 → bit_at (slice_index masks p) k ≡ 0 → bit_at new k ≡ 1 → ((j : ℕ) → j ≢ k → bit_at new j ≡ bit_at (slice_index masks p) j) → unread (slice_set masks p new) + 1 ≡ unread masks
unread_falls masks p k new within few clear set same =
    let total = sum_by-set (missing 8) masks p new 0 within in
    let one = missing_one 8 k (get_or masks p 0) new few clear set same in
    omega (arith, total, one)
