-- Rows that change one after the other.
use Rattle.std.proofs.Common.{◌≡◌, ℕ, zero, suc, ◌+◌, ◌<◌, ◌≤◌, List, [], ◌∷◌, ◌++◌, length, map, take, drop, get_or, refl, sym, ap, subst, ◌∙◌, arith}
use Rattle.std.proofs.lemmas.List.{append-nil, take_all, drop_all}
use lib.ListN.{set}
use Rattle.client_core.specs.declared.holder.Holder.{Holder}
use Rattle.client_core.specs.GoneClients.{Each}

step : (f : Holder → Holder) (k : ℕ) (old : List Holder) (r : Holder) → k < length old → r ≡ get_or (map f (take k old) ++ drop k old) k r →
    set (map f (take k old) ++ drop k old) k (f r) ≡ map f (take (k + 1) old) ++ drop (k + 1) old
step f k [] r within is = absurd (omega (arith, within))
step f zero (c ∷ old) r within is = ap (λ (x : Holder). f x ∷ old) is
step f (suc k) (c ∷ old) r within is =
    let e : suc (k + 1) ≡ suc k + 1 = omega arith in
    ap (λ (xs : List Holder). f c ∷ xs) (step f k old r (omega (arith, within)) is) ∙ ap (λ m. map f (take m (c ∷ old)) ++ drop m (c ∷ old)) e

-- one more is changed
pub next_mapped : (f : Holder → Holder) (k : ℕ) (old now : List Holder) (r new : Holder) → k < length old → now ≡ map f (take k old) ++ drop k old → r ≡ get_or now k r → new ≡ f r →
    set now k new ≡ map f (take (k + 1) old) ++ drop (k + 1) old
next_mapped f k old now r new within now_is is same =
    ap (λ (xs : List Holder). set xs k new) now_is ∙ ap (set (map f (take k old) ++ drop k old) k) same
    ∙ step f k old r within (subst (λ (xs : List Holder). r ≡ get_or xs k r) now_is is)

-- all are changed
pub all_mapped : (f : Holder → Holder) (k : ℕ) (old : List Holder) → length old ≤ k → map f (take k old) ++ drop k old ≡ map f old
all_mapped f k old past =
    ap (λ xs. map f xs ++ drop k old) (take_all k old past) ∙ ap (λ xs. map f old ++ xs) (drop_all k old past) ∙ append-nil (map f old)

-- those before a place have become these, the others are as they were
pub record Moved (R : Holder → Holder → Type 0) (old now : List Holder) (k : ℕ) : Type 0 where
  pub done : List Holder
  pub each : Each R (take k old) done
  pub rest : now ≡ done ++ drop k old

more : (R : Holder → Holder → Type 0) (k : ℕ) (old done : List Holder) (r new : Holder) → k < length old → Each R (take k old) done → r ≡ get_or (done ++ drop k old) k r → R r new →
    (all : List Holder) × Each R (take (k + 1) old) all × (set (done ++ drop k old) k new ≡ all ++ drop (k + 1) old)
more R k [] done r new within each is moved = absurd (omega (arith, within))
more R zero (c ∷ old) done r new within each is moved =
    let first : r ≡ c = is ∙ ap (λ xs. get_or (xs ++ c ∷ old) 0 r) each in
    (new ∷ [], (new, [], subst (λ x. R x new) first moved, refl, refl), ap (λ xs. set (xs ++ c ∷ old) 0 new) each)
more R (suc k) (c ∷ old) done r new within each is moved =
    let e : suc (k + 1) ≡ suc k + 1 = omega arith in
    let h = each.0 in
    let tail = each.1 in
    let item : r ≡ get_or (tail ++ drop k old) k r = is ∙ ap (λ xs. get_or (xs ++ drop k old) (suc k) r) each.4 in
    let one = more R k old tail r new (omega (arith, within)) each.3 item moved in (
      h ∷ one.0,
      subst (λ m. Each R (take m (c ∷ old)) (h ∷ one.0)) e (h, one.0, each.2, one.1, refl),
      ap (λ xs. set (xs ++ drop k old) (suc k) new) each.4 ∙ ap (λ xs. h ∷ xs) one.2 ∙ ap (λ m. (h ∷ one.0) ++ drop m (c ∷ old)) e,
    )

-- one more has moved
pub next_moved : (R : Holder → Holder → Type 0) (k : ℕ) (old now : List Holder) (r new : Holder) → k < length old → Moved R old now k → r ≡ get_or now k r → R r new → Moved R old (set now k new) (k + 1)
next_moved R k old now r new within was is moved =
    let one = more R k old was.done r new within was.each (subst (λ (xs : List Holder). r ≡ get_or xs k r) was.rest is) moved in
    record { done = one.0; each = one.1; rest = ap (λ (xs : List Holder). set xs k new) was.rest ∙ one.2 }

-- all have moved
pub all_moved : (R : Holder → Holder → Type 0) (k : ℕ) (old now : List Holder) → length old ≤ k → Moved R old now k → Each R old now
all_moved R k old now past was =
    let is : was.done ≡ now = sym (was.rest ∙ ap (λ xs. was.done ++ xs) (drop_all k old past) ∙ append-nil was.done) in
    subst (λ xs. Each R old xs) is (subst (λ xs. Each R xs was.done) (take_all k old past) was.each)
