-- The first number above others.
use Rattle.std.proofs.Common.{◌≡◌, ◌<◌, ◌≤◌, ◌+◌, ◌^◌, ◌⊎◌, inl, inr, ℕ, List, [], ◌∷◌, Result, Ok, All, length, take, get_or, sym, subst, codes, decimal, arith}
use Rattle.std.proofs.lemmas.List.{take-take, take_all, length-take-le, get_or-take, append_cancel_right}
use Rattle.std.proofs.lemmas.Bool.{cases_lt}
use Rattle.std.proofs.lemmas.Fmt.{decimal_injective}
use Rattle.std.proofs.lemmas.List.Elements.{All-more, All-nil, All-cons, All-append, All-take, All-get_or, All-weaker}
use Rattle.std.proofs.lemmas.List.Sorted.{All-permutation}
use Rattle.std.specs.List.Sorted.{IsPermutation}
use Rattle.serve_core.specs.Numbers.{value_name, IsFirstAbove, AreBetween, AddsNumber}

pub above_none : (xs : List ℕ) → IsFirstAbove (take 0 xs) 1
above_none xs = (omega arith, All-nil (λ n. n < 1), λ other least all. least)

shorter : (xs : List ℕ) (i other : ℕ) → All (λ n. n < other) (take (i + 1) xs) → All (λ n. n < other) (take i xs)
shorter xs i other all = subst (λ l. All (λ n. n < other) l) (take-take i (i + 1) xs (omega arith)) (All-take (λ n. n < other) i (take (i + 1) xs) all)

-- one number more, which is below
pub above_stays : (xs : List ℕ) (i first : ℕ) → i < length xs → get_or xs i 0 < first → IsFirstAbove (take i xs) first → IsFirstAbove (take (i + 1) xs) first
above_stays xs i first within below before =
    (before.0, All-more (λ n. n < first) xs i 0 within before.1 below, λ other least all. before.2 other least (shorter xs i other all))

last_below : (xs : List ℕ) (i other : ℕ) → i < length xs → All (λ n. n < other) (take (i + 1) xs) → get_or xs i 0 < other
last_below xs i other within all =
    let long : length (take (i + 1) xs) ≡ i + 1 = length-take-le (i + 1) xs (omega (arith, within)) in
    let there : get_or (take (i + 1) xs) i 0 < other = All-get_or (λ n. n < other) (take (i + 1) xs) i 0 (omega (arith, long)) all in
    subst (λ x. x < other) (get_or-take (i + 1) xs i 0 (omega arith)) there

-- one number more, which is not
pub above_rises : (xs : List ℕ) (i first : ℕ) → i < length xs → first ≤ get_or xs i 0 → IsFirstAbove (take i xs) first → IsFirstAbove (take (i + 1) xs) (get_or xs i 0 + 1)
above_rises xs i first within not_below before = (
  omega arith,
  All-more (λ n. n < get_or xs i 0 + 1) xs i 0 within (All-weaker (λ n. n < first) (λ n. n < get_or xs i 0 + 1) (λ n h. omega (arith, h, not_below)) (take i xs) before.1) (omega arith),
  λ other least all. let below = last_below xs i other within all in omega (arith, below),
)

-- a name has one number
pub same_number : (n m : ℕ) → n < 2 ^ 64 → m < 2 ^ 64 → value_name n ≡ value_name m → n ≡ m
same_number n m low high same = decimal_injective n m low high (append_cancel_right (decimal n) (decimal m) (codes ".val") same)

-- a result has one value
pub one_ok : {E : Type 0} (n m : ℕ) (r : Result ℕ E) → r ≡ Ok n → r ≡ Ok m → n ≡ m
one_ok n m r first second = cc (first, second)

more : (xs : List ℕ) (i first next : ℕ) → i < length xs → (get_or xs i 0 < first → next ≡ first) → (first ≤ get_or xs i 0 → get_or xs i 0 < 2 ^ 63 → next ≡ get_or xs i 0 + 1)
    → get_or xs i 0 < 2 ^ 63 → IsFirstAbove (take i xs) first → (get_or xs i 0 < first) ⊎ (first ≤ get_or xs i 0) → IsFirstAbove (take (i + 1) xs) next
more xs i first next within stays rises low before (inl below) =
    subst (λ n. IsFirstAbove (take (i + 1) xs) n) (sym (stays below)) (above_stays xs i first within below before)
more xs i first next within stays rises low before (inr not_below) =
    subst (λ n. IsFirstAbove (take (i + 1) xs) n) (sym (rises not_below low)) (above_rises xs i first within not_below before)

-- one number more
pub above_more : (xs : List ℕ) (i first next : ℕ) → i < length xs → (get_or xs i 0 < first → next ≡ first) → (first ≤ get_or xs i 0 → get_or xs i 0 < 2 ^ 63 → next ≡ get_or xs i 0 + 1)
    → All (λ n. n < 2 ^ 63) xs → IsFirstAbove (take i xs) first → IsFirstAbove (take (i + 1) xs) next
above_more xs i first next within stays rises low before =
    more xs i first next within stays rises (All-get_or (λ n. n < 2 ^ 63) xs i 0 within low) before (cases_lt (get_or xs i 0) first)

-- all numbers
pub above_all : (xs : List ℕ) (i first : ℕ) → length xs ≤ i → IsFirstAbove (take i xs) first → IsFirstAbove xs first
above_all xs i first past done = subst (λ l. IsFirstAbove l first) (take_all i xs past) done

-- the first number above those that were found, in the order of a sort
pub found_first : (given sorted seen : List ℕ) (first : ℕ) → IsPermutation given sorted → seen ≡ sorted → (All (λ n. n < 2 ^ 63) seen → IsFirstAbove seen first) → All (λ n. n < 2 ^ 63) given → IsFirstAbove sorted first × All (λ n. n < 2 ^ 63) sorted
found_first given sorted seen first order same above low =
    let all : All (λ n. n < 2 ^ 63) sorted = All-permutation (λ n. n < 2 ^ 63) given sorted order low in
    (subst (λ l. IsFirstAbove l first) same (above (subst (All (λ n. n < 2 ^ 63)) (sym same) all)), all)

-- what a name adds is from the first number on and below the last
pub adds_between : (first end : ℕ) (name old new : List ℕ) → AddsNumber first end name old new → AreBetween first end old → AreBetween first end new
adds_between first end name old new (inl (number, is, added)) each =
    subst (AreBetween first end) (sym added) (All-append (λ n. (first ≤ n) × (n < end)) old (number ∷ []) each (All-cons (λ n. (first ≤ n) × (n < end)) number [] (is.from, is.below) (All-nil (λ n. (first ≤ n) × (n < end)))))
adds_between first end name old new (inr (other, same)) each = subst (AreBetween first end) (sym same) each
