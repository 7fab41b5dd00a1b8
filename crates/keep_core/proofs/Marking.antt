-- Marks, and the slips that set them.
use Rattle.std.proofs.Common.{◌≡◌, ◌∙◌, ap, sym, subst, refl, arith, ℕ, zero, suc, ◌+◌, ◌<◌, ◌≤◌, ◌⊎◌, inl, inr, ◌↔◌, List, [], ◌∷◌, length, Bool, true, false, Some}
use Rattle.std.specs.Prelude.{slice_get, slice_set}
use Rattle.std.proofs.lemmas.List.{length-set}
use Rattle.std.proofs.lemmas.Option.{same_Some, slice_get_within}
use Rattle.std.proofs.lemmas.Bool.{false≢true, cases_lt}
use Rattle.page_core.specs.Lists.{Among}
use Rattle.page_core.specs.ObjectCalls.{Noted}
use Rattle.office_core.specs.Slips.{Told}
use Rattle.office_core.specs.Receipts.{HaveSlips}
use Rattle.keep_core.specs.Marks.{mark_at, marked}

-- what was set is there
set_here : {X : Type 0} (xs : List X) (k : ℕ) (x : X) → k < length xs → slice_get (slice_set xs k x) k ≡ Some x
set_here [] k x within = absurd (omega (arith, within))
set_here (y ∷ xs) zero x within = refl
set_here (y ∷ xs) (suc k) x within = set_here xs k x (omega (arith, within))

-- what is there after one was set
set_or : {X : Type 0} (xs : List X) (j : ℕ) (x : X) (k : ℕ) (y : X) → slice_get (slice_set xs j x) k ≡ Some y → (k ≡ j) ⊎ (slice_get xs k ≡ Some y)
set_or [] j x k y is = inr is
set_or (z ∷ xs) zero x zero y is = inl refl
set_or (z ∷ xs) zero x (suc k) y is = inr is
set_or (z ∷ xs) (suc j) x zero y is = inr is
set_or (z ∷ xs) (suc j) x (suc k) y is = elim (set_or xs j x k y is) [ inl same ↦ inl (omega (arith, same)) | inr before ↦ inr before ]

-- a mark stays where one more is set
set_still : (row : List Bool) (j k : ℕ) → slice_get row k ≡ Some true → slice_get (slice_set row j true) k ≡ Some true
set_still [] j k is = is
set_still (m ∷ row) zero zero is = refl
set_still (m ∷ row) zero (suc k) is = is
set_still (m ∷ row) (suc j) zero is = is
set_still (m ∷ row) (suc j) (suc k) is = set_still row j k is

-- another one than the first items
pub get_one_more : (row : List Bool) (n : ℕ) (m : Bool) → ((k : ℕ) → k < n → slice_get row k ≡ Some m) → slice_get row n ≡ Some m → (k : ℕ) → k < n + 1 → slice_get row k ≡ Some m
get_one_more row n m before here k less = elim (cases_lt k n) [
  | inl below ↦ before k below
  | inr from ↦ subst (λ (j : ℕ). slice_get row j ≡ Some m) (omega (arith, less, from)) here
]

-- one item more is set
pub set_one_more : (row : List Bool) (n : ℕ) (m : Bool) → n < length row → ((k : ℕ) → k < n → slice_get row k ≡ Some m) → (k : ℕ) → k < n + 1 → slice_get (slice_set row n m) k ≡ Some m
set_one_more row n m within before = get_one_more (slice_set row n m) n m (λ k less. others row n k m less (before k less)) (set_here row n m within) where
  others : (xs : List Bool) (j k : ℕ) (x : Bool) → k < j → slice_get xs k ≡ Some x → slice_get (slice_set xs j x) k ≡ Some x
  others [] j k x less is = is
  others (y ∷ xs) zero k x less is = absurd (omega (arith, less))
  others (y ∷ xs) (suc j) zero x less is = is
  others (y ∷ xs) (suc j) (suc k) x less is = others xs j k x (omega (arith, less)) is

-- one of these slips is of this place, which counts from 0
abbrev HasSlip : List Told → ℕ → Type 0
HasSlip slips k = (t : Told) × Among t slips × (t.place ≡ k + 1)

mark_still : (row : List Bool) (place k : ℕ) → slice_get row k ≡ Some true → slice_get (mark_at row place) k ≡ Some true
mark_still row zero k is = is
mark_still row (suc j) k is = set_still row j k is

mark_or : (row : List Bool) (place k : ℕ) → slice_get (mark_at row place) k ≡ Some true → (place ≡ k + 1) ⊎ (slice_get row k ≡ Some true)
mark_or row zero k is = inr is
mark_or row (suc j) k is = elim (set_or row j true k true is) [ inl same ↦ inl (omega (arith, same)) | inr before ↦ inr before ]

mark_here : (row : List Bool) (place k : ℕ) → place ≡ k + 1 → k < length row → slice_get (mark_at row place) k ≡ Some true
mark_here row zero k is within = absurd (omega (arith, is))
mark_here row (suc j) k is within = subst (λ (i : ℕ). slice_get (slice_set row i true) k ≡ Some true) (omega (arith, is)) (set_here row k true within)

mark_length : (row : List Bool) (place : ℕ) → length (mark_at row place) ≡ length row
mark_length row zero = refl
mark_length row (suc j) = length-set row j true

pub marked_length : (row : List Bool) (slips : List Told) → length (marked row slips) ≡ length row
marked_length row [] = refl
marked_length row (t ∷ slips) = marked_length (mark_at row t.place) slips ∙ mark_length row t.place

marked_still : (row : List Bool) (slips : List Told) (k : ℕ) → slice_get row k ≡ Some true → slice_get (marked row slips) k ≡ Some true
marked_still row [] k is = is
marked_still row (t ∷ slips) k is = marked_still (mark_at row t.place) slips k (mark_still row t.place k is)

-- a place that has a mark had one, or a slip is of it
marked_or : (row : List Bool) (slips : List Told) (k : ℕ) → slice_get (marked row slips) k ≡ Some true → HasSlip slips k ⊎ (slice_get row k ≡ Some true)
marked_or row [] k is = inr is
marked_or row (t ∷ slips) k is = elim (marked_or (mark_at row t.place) slips k is) [
  | inl later ↦ inl (later.0, inr later.1, later.2)
  | inr now ↦ elim (mark_or row t.place k now) [ inl here ↦ inl (t, inl refl, here) | inr before ↦ inr before ]
]

-- a place that a slip is of has a mark
marked_by : (row : List Bool) (slips : List Told) (k : ℕ) → k < length row → HasSlip slips k → slice_get (marked row slips) k ≡ Some true
marked_by row [] k within (t, among, of) = absurd among
marked_by row (first ∷ slips) k within (t, inl same, of) =
    marked_still (mark_at row first.place) slips k (mark_here row first.place k (ap (λ (s : Told). s.place) same ∙ of) within)
marked_by row (first ∷ slips) k within (t, inr among, of) =
    marked_by (mark_at row first.place) slips k (subst (λ (n : ℕ). k < n) (sym (mark_length row first.place)) within) (t, among, of)

get_within : {X : Type 0} (xs : List X) (k : ℕ) → k < length xs → (x : X) × (slice_get xs k ≡ Some x)
get_within [] k within = absurd (omega (arith, within))
get_within (x ∷ xs) zero within = (x, refl)
get_within (x ∷ xs) (suc k) within = get_within xs k (omega (arith, within))

-- where no place had a mark, each entry has a slip exactly where its place has one
pub slips_marked : (row after : List Bool) (history : List Noted) (slips : List Told) → after ≡ marked row slips → length history ≤ length row → ((k : ℕ) → k < length history → slice_get row k ≡ Some false) →
    ((k : ℕ) → k < length history → slice_get after k ≡ Some true) ↔ HaveSlips history slips
slips_marked row after history slips is room none = (
  λ all k e there. (let within = slice_get_within history k e there in found k within (marked_or row slips k (ap (λ (ms : List Bool). slice_get ms k) (sym is) ∙ all k within))),
  λ have k within. (
      let there = get_within history k within in
      ap (λ (ms : List Bool). slice_get ms k) is ∙ marked_by row slips k (omega (arith, within, room)) (have k there.0 there.1)),
) where
  found : (k : ℕ) → k < length history → HasSlip slips k ⊎ (slice_get row k ≡ Some true) → HasSlip slips k
  found k within (inl has) = has
  found k within (inr marked_before) = absurd (false≢true (same_Some false true (sym (none k within) ∙ marked_before)))
