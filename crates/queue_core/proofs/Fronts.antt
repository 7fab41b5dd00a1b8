-- Fronts of lists, and items of a list in which one was set.
use Rattle.std.proofs.Common.{◌≡◌, ◌≢◌, ℕ, zero, suc, ◌+◌, ◌⊎◌, inl, inr, List, [], ◌∷◌, Some, refl, sym, ap, subst, arith, take, get_or}
use Rattle.std.specs.Prelude.{slice_get, slice_set, unwrap_or}
use Rattle.std.proofs.lemmas.List.{take_more}
use Rattle.std.proofs.lemmas.Option.{slice_get_within}
use Rattle.page_core.specs.Lists.{Every}
use Rattle.page_core.proofs.Lists.{Every-snoc}

-- the first so many, and one more
pub Every-more : {X : Type 0} (P : X → Type 0) (xs : List X) (k : ℕ) (x : X) → Every P (take k xs) → slice_get xs k ≡ Some x → P x → Every P (take (k + 1) xs)
Every-more P xs k x all is here =
    subst (Every P) (sym (take_more xs k x (slice_get_within xs k x is))) (Every-snoc P (take k xs) (get_or xs k x) all (subst P (same xs k x is) here))
  where
    same : {X : Type 0} (xs : List X) (k : ℕ) (x : X) → slice_get xs k ≡ Some x → x ≡ get_or xs k x
    same [] k x is = absurd cc
    same (y ∷ xs) zero x is = sym (ap (λ o. unwrap_or o x) is)
    same (y ∷ xs) (suc k) x is = same xs k x is

-- an item of a list in which one was set
pub get_set : {X : Type 0} (xs : List X) (j : ℕ) (y : X) (k : ℕ) (x : X) → slice_get (slice_set xs j y) k ≡ Some x → ((k ≡ j) × (y ≡ x)) ⊎ ((k ≢ j) × (slice_get xs k ≡ Some x))
get_set [] j y k x is = absurd cc
get_set (z ∷ xs) zero y zero x is = inl (refl, ap (λ o. unwrap_or o y) is)
get_set (z ∷ xs) zero y (suc k) x is = inr (λ same. absurd (omega (arith, same)), is)
get_set (z ∷ xs) (suc j) y zero x is = inr (λ same. absurd (omega (arith, same)), is)
get_set (z ∷ xs) (suc j) y (suc k) x is = elim (get_set xs j y k x is) [ inl h ↦ inl (omega (arith, h.0), h.1) | inr h ↦ inr (λ same. h.0 (omega (arith, same)), h.1) ]
