-- Lists cut at a place.
use Rattle.std.proofs.Common.{◌≡◌, ◌≢◌, ℕ, zero, suc, ◌<◌, List, [], ◌∷◌, ◌++◌, length, Some, refl, sym, ◌∙◌, ap, arith, take, drop, map}
use Rattle.std.specs.Prelude.{slice_get, slice_set}
use Rattle.page_core.specs.Lists.{EachPair}
use Rattle.page_core.proofs.Lists.{Every-at}

pub some_is : {X : Type 0} {x y : X} → Some x ≡ Some y → x ≡ y
some_is e = cc

-- places of items that differ from each other are one
pub one_place : {X : Type 0} (f : X → ℕ) (xs : List X) (k m : ℕ) (x y : X) → EachPair (λ a b. f a ≢ f b) xs → slice_get xs k ≡ Some x → slice_get xs m ≡ Some y → f x ≡ f y → k ≡ m
one_place f [] k m x y pairs at there same = absurd cc
one_place f (z ∷ xs) zero zero x y pairs at there same = refl
one_place f (z ∷ xs) zero (suc m) x y pairs at there same =
    let here : z ≡ x = some_is at in
    absurd (Every-at (λ b. f z ≢ f b) xs m y pairs.0 there (ap f here ∙ same))
one_place f (z ∷ xs) (suc k) zero x y pairs at there same =
    let here : z ≡ y = some_is there in
    absurd (Every-at (λ b. f z ≢ f b) xs k x pairs.0 at (ap f here ∙ sym same))
one_place f (z ∷ xs) (suc k) (suc m) x y pairs at there same = ap suc (one_place f xs k m x y pairs.1 at there same)

-- the first items and one more, where that one was changed
pub take_set : {X : Type 0} (xs : List X) (k : ℕ) (x y : X) → slice_get xs k ≡ Some x → take (suc k) (slice_set xs k y) ≡ take k xs ++ y ∷ []
take_set [] k x y at = absurd cc
take_set (z ∷ xs) zero x y at = refl
take_set (z ∷ xs) (suc k) x y at = ap (λ zs. z ∷ zs) (take_set xs k x y at)

pub drop_set : {X : Type 0} (xs : List X) (k : ℕ) (x y : X) → slice_get xs k ≡ Some x → drop (suc k) (slice_set xs k y) ≡ drop (suc k) xs
drop_set [] k x y at = absurd cc
drop_set (z ∷ xs) zero x y at = refl
drop_set (z ∷ xs) (suc k) x y at = drop_set xs k x y at

-- what is left from a place on begins with the item there
pub drop_at : {X : Type 0} (xs : List X) (k : ℕ) (x : X) → slice_get xs k ≡ Some x → drop k xs ≡ x ∷ drop (suc k) xs
drop_at [] k x at = absurd cc
drop_at (z ∷ xs) zero x at = ap (λ y. y ∷ xs) (some_is at)
drop_at (z ∷ xs) (suc k) x at = drop_at xs k x at

-- and the first item of that stands there
pub at_of_drop : {X : Type 0} (xs : List X) (k : ℕ) (x : X) (rest : List X) → drop k xs ≡ x ∷ rest → slice_get xs k ≡ Some x
at_of_drop [] zero x rest is = absurd cc
at_of_drop [] (suc k) x rest is = absurd cc
at_of_drop (z ∷ xs) zero x rest is = cc
at_of_drop (z ∷ xs) (suc k) x rest is = at_of_drop xs k x rest is

pub within : {X : Type 0} (xs : List X) (k : ℕ) (x : X) → slice_get xs k ≡ Some x → k < length xs
within [] k x at = absurd cc
within (z ∷ xs) zero x at = omega arith
within (z ∷ xs) (suc k) x at = omega (arith, within xs k x at)

pub length_set : {X : Type 0} (xs : List X) (k : ℕ) (y : X) → length (slice_set xs k y) ≡ length xs
length_set [] k y = refl
length_set (x ∷ xs) zero y = refl
length_set (x ∷ xs) (suc k) y = ap suc (length_set xs k y)

pub length_snoc : {X : Type 0} (xs : List X) (y : X) → length (xs ++ y ∷ []) ≡ suc (length xs)
length_snoc [] y = refl
length_snoc (x ∷ xs) y = ap suc (length_snoc xs y)

pub map_snoc : {X Y : Type 0} (f : X → Y) (xs : List X) (y : X) → map f (xs ++ y ∷ []) ≡ map f xs ++ f y ∷ []
map_snoc f [] y = refl
map_snoc f (x ∷ xs) y = ap (λ zs. f x ∷ zs) (map_snoc f xs y)

pub all_taken : {X : Type 0} (xs : List X) → take (length xs) xs ≡ xs
all_taken [] = refl
all_taken (x ∷ xs) = ap (λ zs. x ∷ zs) (all_taken xs)

pub none_left : {X : Type 0} (xs : List X) → drop (length xs) xs ≡ []
none_left [] = refl
none_left (x ∷ xs) = none_left xs
