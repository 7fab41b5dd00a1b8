-- Items of lists.
use Rattle.std.proofs.Common.{◌≡◌, ◌≢◌, ◌<◌, ℕ, zero, suc, ◌⊎◌, inl, inr, List, [], ◌∷◌, ◌++◌, length, Some, refl, sym, ◌∙◌, ap, arith}
use Rattle.std.specs.Prelude.{slice_get, slice_set, unwrap_or}

-- an item of a longer list
pub get_more : {X : Type 0} (xs : List X) (y : X) (k : ℕ) (x : X) → slice_get (xs ++ y ∷ []) k ≡ Some x → (slice_get xs k ≡ Some x) ⊎ ((k ≡ length xs) × (y ≡ x))
get_more [] y zero x is = inr (refl, ap (λ o. unwrap_or o y) is)
get_more [] y (suc k) x is = absurd cc
get_more (z ∷ xs) y zero x is = inl is
get_more (z ∷ xs) y (suc k) x is = elim (get_more xs y k x is) [ inl h ↦ inl h | inr h ↦ inr (omega (arith, h.0), h.1) ]

-- an item of a list in which one was set
pub get_set : {X : Type 0} (xs : List X) (j : ℕ) (y : X) (k : ℕ) (x : X) → slice_get (slice_set xs j y) k ≡ Some x → ((k ≡ j) × (y ≡ x)) ⊎ ((k ≢ j) × (slice_get xs k ≡ Some x))
get_set [] j y k x is = absurd cc
get_set (z ∷ xs) zero y zero x is = inl (refl, ap (λ o. unwrap_or o y) is)
get_set (z ∷ xs) zero y (suc k) x is = inr (λ same. absurd (omega (arith, same)), is)
get_set (z ∷ xs) (suc j) y zero x is = inr (λ same. absurd (omega (arith, same)), is)
get_set (z ∷ xs) (suc j) y (suc k) x is = elim (get_set xs j y k x is) [ inl h ↦ inl (omega (arith, h.0), h.1) | inr h ↦ inr (λ same. h.0 (omega (arith, same)), h.1) ]

-- an item of the front
pub get_front : {X : Type 0} (xs ys : List X) (k : ℕ) (x : X) → slice_get xs k ≡ Some x → slice_get (xs ++ ys) k ≡ Some x
get_front [] ys k x is = absurd cc
get_front (y ∷ xs) ys zero x is = is
get_front (y ∷ xs) ys (suc k) x is = get_front xs ys k x is

-- the last item
pub get_last : {X : Type 0} (xs : List X) (x : X) → slice_get (xs ++ x ∷ []) (length xs) ≡ Some x
get_last [] x = refl
get_last (y ∷ xs) x = get_last xs x

-- the item that was set
pub get_here : {X : Type 0} (xs : List X) (k : ℕ) (x y : X) → slice_get xs k ≡ Some x → slice_get (slice_set xs k y) k ≡ Some y
get_here [] k x y is = absurd cc
get_here (z ∷ xs) zero x y is = refl
get_here (z ∷ xs) (suc k) x y is = get_here xs k x y is

-- the others are as they were
pub get_there : {X : Type 0} (xs : List X) (j : ℕ) (y : X) (k : ℕ) → k ≢ j → slice_get (slice_set xs j y) k ≡ slice_get xs k
get_there [] j y k other = refl
get_there (z ∷ xs) zero y zero other = absurd (other refl)
get_there (z ∷ xs) zero y (suc k) other = refl
get_there (z ∷ xs) (suc j) y zero other = refl
get_there (z ∷ xs) (suc j) y (suc k) other = get_there xs j y k (λ same. other (omega (arith, same)))

pub get_within : {X : Type 0} (xs : List X) (k : ℕ) (x : X) → slice_get xs k ≡ Some x → k < length xs
get_within [] k x is = absurd cc
get_within (z ∷ xs) zero x is = omega arith
get_within (z ∷ xs) (suc k) x is = omega (arith, get_within xs k x is)

pub get_some : {X : Type 0} (xs : List X) (k : ℕ) → k < length xs → (y : X) × (slice_get xs k ≡ Some y)
get_some [] k within = absurd (omega (arith, within))
get_some (x ∷ xs) zero within = (x, refl)
get_some (x ∷ xs) (suc k) within = get_some xs k (omega (arith, within))

pub one_item : {X : Type 0} (xs : List X) (k : ℕ) (x y : X) → slice_get xs k ≡ Some x → slice_get xs k ≡ Some y → x ≡ y
one_item xs k x y is at = ap (λ o. unwrap_or o x) (sym is ∙ at)
