-- What holds of each item of a list.
use Rattle.std.proofs.Common.{◌≡◌, ℕ, zero, suc, ◌≤◌, arith, refl, subst, List, [], ◌∷◌, ◌++◌, length, take}
use Rattle.std.specs.Prelude.{All, Some, slice_get, slice_set, slice_index_or}
use Rattle.std.proofs.lemmas.List.Elements.{All-head, All-tail}
use Rattle.std.proofs.lemmas.Option.{same_Some}
use Rattle.live_core.specs.Front.{Every}

pub every_at : {X : Type 0} (P : X → Type 0) (xs : List X) (p : ℕ) (x : X) → slice_get xs p ≡ Some x → Every P xs → P x
every_at P [] p x is all = absurd (grind (arith, is))
every_at P (y ∷ xs) zero x is all = subst P (same_Some y x is) all.0
every_at P (y ∷ xs) (suc p) x is all = every_at P xs p x is all.1

pub every_set : {X : Type 0} (P : X → Type 0) (xs : List X) (p : ℕ) (x : X) → Every P xs → P x → Every P (slice_set xs p x)
every_set P [] p x all is = tt
every_set P (y ∷ xs) zero x all is = (is, all.1)
every_set P (y ∷ xs) (suc p) x all is = (all.0, every_set P xs p x all.1 is)

pub every_both : {X : Type 0} (P : X → Type 0) (xs ys : List X) → Every P xs → Every P ys → Every P (xs ++ ys)
every_both P [] ys all more = more
every_both P (x ∷ xs) ys all more = (all.0, every_both P xs ys all.1 more)

pub every_push : {X : Type 0} (P : X → Type 0) (xs : List X) (x : X) → Every P xs → P x → Every P (xs ++ x ∷ [])
every_push P xs x all is = every_both P xs (x ∷ []) all (is, tt)

pub every_take : {X : Type 0} (P : X → Type 0) (n : ℕ) (xs : List X) → Every P xs → Every P (take n xs)
every_take P zero xs all = tt
every_take P (suc n) [] all = tt
every_take P (suc n) (x ∷ xs) all = (all.0, every_take P n xs all.1)

pub length_take : {X : Type 0} (n : ℕ) (xs : List X) → length (take n xs) ≤ length xs
length_take zero xs = omega arith
length_take (suc n) [] = omega arith
length_take (suc n) (x ∷ xs) = let less = length_take n xs in omega (arith, less)

-- it holds of each, as it holds at each place
pub every_by : {X : Type 0} (P : X → Type 0) (xs : List X) → ((p : ℕ) (x : X) → slice_get xs p ≡ Some x → P x) → Every P xs
every_by P [] each = tt
every_by P (x ∷ xs) each = (each 0 x refl, every_by P xs (λ p y is. each (suc p) y is))

pub every_all : {X : Type 0} (P : X → Type 0) (xs : List X) → All P xs → Every P xs
every_all P [] all = tt
every_all P (x ∷ xs) all = (All-head P x xs all, every_all P xs (All-tail P x xs all))

-- what stands at a place, or another thing of which it holds
pub every_index : {X : Type 0} (P : X → Type 0) (xs : List X) (k : ℕ) (d : X) → Every P xs → P d → P (slice_index_or xs k d)
every_index P [] k d all is = is
every_index P (x ∷ xs) zero d all is = all.0
every_index P (x ∷ xs) (suc k) d all is = every_index P xs k d all.1 is

pub every_left : {X : Type 0} (P : X → Type 0) (xs ys : List X) → Every P (xs ++ ys) → Every P xs
every_left P [] ys all = tt
every_left P (x ∷ xs) ys all = (all.0, every_left P xs ys all.1)

pub every_right : {X : Type 0} (P : X → Type 0) (xs ys : List X) → Every P (xs ++ ys) → Every P ys
every_right P [] ys all = all
every_right P (x ∷ xs) ys all = every_right P xs ys all.1
