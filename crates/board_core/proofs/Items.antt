-- Items of lists.
use Rattle.std.proofs.Common.{◌≡◌, ◌≢◌, ℕ, zero, suc, ◌⊎◌, inl, inr, List, [], ◌∷◌, ◌++◌, length, Some, refl, ap, arith}
use Rattle.std.specs.Prelude.{slice_get, slice_set, unwrap_or}

-- an item of a longer list
pub get_more : {X : Type 0} (xs : List X) (y : X) (k : ℕ) (x : X) → slice_get (xs ++ y ∷ []) k ≡ Some x → (slice_get xs k ≡ Some x) ⊎ ((k ≡ length xs) × (y ≡ x))
get_more [] y zero x is = inr (refl, ap (λ o. unwrap_or o y) is)
get_more [] y (suc k) x is = absurd cc
get_more (z ∷ xs) y zero x is = inl is
get_more (z ∷ xs) y (suc k) x is = elim (get_more xs y k x is) [ inl h ↦ inl h | inr h ↦ inr (omega (arith, h.0), h.1) ]

-- an item of a list in which one was set
pub get_set : {X : Type 0} (xs : List X) (j : ℕ) (y : X) (k : ℕ) (x : X) → slice_get (slice_set xs j y) k ≡ Some x → ((k ≡ j) × (y ≡ x)) ⊎ ((k ≢ j) × (slice_get xs k ≡ Some x))
get_set [] j y k x is = absurd cc
get_set (z ∷ xs) zero y zero x is = inl (refl, ap (λ o. unwrap_or o y) is)
get_set (z ∷ xs) zero y (suc k) x is = inr (λ same. absurd (omega (arith, same)), is)
get_set (z ∷ xs) (suc j) y zero x is = inr (λ same. absurd (omega (arith, same)), is)
get_set (z ∷ xs) (suc j) y (suc k) x is = elim (get_set xs j y k x is) [ inl h ↦ inl (omega (arith, h.0), h.1) | inr h ↦ inr (λ same. h.0 (omega (arith, same)), h.1) ]

-- an item of the front
pub get_front : {X : Type 0} (xs ys : List X) (k : ℕ) (x : X) → slice_get xs k ≡ Some x → slice_get (xs ++ ys) k ≡ Some x
get_front [] ys k x is = absurd cc
get_front (y ∷ xs) ys zero x is = is
get_front (y ∷ xs) ys (suc k) x is = get_front xs ys k x is

-- the last item
pub get_last : {X : Type 0} (xs : List X) (x : X) → slice_get (xs ++ x ∷ []) (length xs) ≡ Some x
get_last [] x = refl
get_last (y ∷ xs) x = get_last xs x
