use Rattle.std.proofs.Common.{◌≡◌, ℕ, zero, suc, ◌+◌, ◌<◌, ◌≤◌, ◌⊎◌, inl, inr, Bool, true, false, cond, ◌==◌, List, [], ◌∷◌, ◌++◌, length, Some, refl, sym, ◌∙◌, ap, subst, arith, take, drop}
use Rattle.std.specs.Prelude.{unwrap_or, slice_get, slice_set}
use Rattle.std.specs.List.{filter}
use Rattle.std.proofs.lemmas.Bool.{eq-eqb}
use Rattle.page_core.specs.Lists.{Every, EachPair, Among}

pub true_false : (b : Bool) → b ≡ true → b ≡ false → ⊥
true_false b t f = absurd cc

pub Every-snoc : {X : Type 0} (P : X → Type 0) (xs : List X) (y : X) → Every P xs → P y → Every P (xs ++ y ∷ [])
Every-snoc P [] y all here = (here, tt)
Every-snoc P (x ∷ xs) y all here = (all.0, Every-snoc P xs y all.1 here)

pub Every-map : {X : Type 0} (P Q : X → Type 0) (more : (x : X) → P x → Q x) (xs : List X) → Every P xs → Every Q xs
Every-map P Q more [] all = tt
Every-map P Q more (x ∷ xs) all = (more x all.0, Every-map P Q more xs all.1)

pub Every-all : {X : Type 0} (P : X → Type 0) → ((x : X) → P x) → (xs : List X) → Every P xs
Every-all P each [] = tt
Every-all P each (x ∷ xs) = (each x, Every-all P each xs)

pub Every-both : {X : Type 0} (P Q R : X → Type 0) (more : (x : X) → P x → Q x → R x) (xs : List X) → Every P xs → Every Q xs → Every R xs
Every-both P Q R more [] ps qs = tt
Every-both P Q R more (x ∷ xs) ps qs = (more x ps.0 qs.0, Every-both P Q R more xs ps.1 qs.1)

Every-cond : {X : Type 0} (P : X → Type 0) (b : Bool) (x : X) (xs : List X) → P x → Every P xs → Every P (cond b (x ∷ xs) xs)
Every-cond P true x xs here all = (here, all)
Every-cond P false x xs here all = all

pub Every-filter : {X : Type 0} (P : X → Type 0) (p : X → Bool) (xs : List X) → Every P xs → Every P (filter p xs)
Every-filter P p [] all = tt
Every-filter P p (x ∷ xs) all = Every-cond P (p x) x (filter p xs) all.0 (Every-filter P p xs all.1)

passes-cond : {X : Type 0} (p : X → Bool) (b : Bool) (x : X) (xs : List X) → p x ≡ b → Every (λ y. p y ≡ true) xs → Every (λ y. p y ≡ true) (cond b (x ∷ xs) xs)
passes-cond p true x xs is all = (is, all)
passes-cond p false x xs is all = all

-- what is left passes the test
pub filter_passes : {X : Type 0} (p : X → Bool) (xs : List X) → Every (λ y. p y ≡ true) (filter p xs)
filter_passes p [] = tt
filter_passes p (x ∷ xs) = passes-cond p (p x) x (filter p xs) refl (filter_passes p xs)

pub Every-among : {X : Type 0} (P : X → Type 0) (xs : List X) (y : X) → Every P xs → Among y xs → P y
Every-among P [] y all here = absurd here
Every-among P (x ∷ xs) y all here = elim here [ inl same ↦ subst P same all.0 | inr later ↦ Every-among P xs y all.1 later ]

pub Every-at : {X : Type 0} (P : X → Type 0) (xs : List X) (k : ℕ) (y : X) → Every P xs → slice_get xs k ≡ Some y → P y
Every-at P [] k y all is = absurd cc
Every-at P (x ∷ xs) zero y all is = subst P (ap (λ o. unwrap_or o x) is) all.0
Every-at P (x ∷ xs) (suc k) y all is = Every-at P xs k y all.1 is

pub every_from : {X : Type 0} (P : X → Type 0) (xs : List X) → ((x : X) → Among x xs → P x) → Every P xs
every_from P [] each = tt
every_from P (x ∷ xs) each = (each x (inl refl), every_from P xs (λ y later. each y (inr later)))

pub EachPair-snoc : {X : Type 0} (R : X → X → Type 0) (xs : List X) (y : X) → EachPair R xs → Every (λ x. R x y) xs → EachPair R (xs ++ y ∷ [])
EachPair-snoc R [] y pairs with_y = (tt, tt)
EachPair-snoc R (x ∷ xs) y pairs with_y = (Every-snoc (R x) xs y pairs.0 with_y.0, EachPair-snoc R xs y pairs.1 with_y.1)

EachPair-cond : {X : Type 0} (R : X → X → Type 0) (b : Bool) (x : X) (xs : List X) → Every (R x) xs → EachPair R xs → EachPair R (cond b (x ∷ xs) xs)
EachPair-cond R true x xs here pairs = (here, pairs)
EachPair-cond R false x xs here pairs = pairs

pub EachPair-filter : {X : Type 0} (R : X → X → Type 0) (p : X → Bool) (xs : List X) → EachPair R xs → EachPair R (filter p xs)
EachPair-filter R p [] pairs = tt
EachPair-filter R p (x ∷ xs) pairs = EachPair-cond R (p x) x (filter p xs) (Every-filter (R x) p xs pairs.0) (EachPair-filter R p xs pairs.1)

among-cond : {X : Type 0} (y : X) (b : Bool) (x : X) (xs : List X) → Among y (cond b (x ∷ xs) xs) → Among y (x ∷ xs)
among-cond y true x xs h = h
among-cond y false x xs h = inr h

-- what is left was there
pub among_filter : {X : Type 0} (p : X → Bool) (xs : List X) (y : X) → Among y (filter p xs) → Among y xs
among_filter p [] y h = absurd h
among_filter p (x ∷ xs) y h = elim (among-cond y (p x) x (filter p xs) h) [ inl same ↦ inl same | inr later ↦ inr (among_filter p xs y later) ]

pub among_snoc : {X : Type 0} (xs : List X) (z y : X) → Among y (xs ++ z ∷ []) → Among y xs ⊎ (z ≡ y)
among_snoc [] z y h = elim h [ inl same ↦ inr same | inr none ↦ absurd none ]
among_snoc (x ∷ xs) z y h = elim h [ inl same ↦ inl (inl same) | inr later ↦ elim (among_snoc xs z y later) [ inl there ↦ inl (inr there) | inr same ↦ inr same ] ]

pub among_at : {X : Type 0} (xs : List X) (k : ℕ) (y : X) → slice_get xs k ≡ Some y → Among y xs
among_at [] k y is = absurd cc
among_at (x ∷ xs) zero y is = inl (ap (λ o. unwrap_or o x) is)
among_at (x ∷ xs) (suc k) y is = inr (among_at xs k y is)

all_pass-cond : {X : Type 0} (p : X → Bool) (x : X) (xs : List X) (b : Bool) → b ≡ true → cond b (x ∷ xs) xs ≡ x ∷ xs
all_pass-cond p x xs true is = refl
all_pass-cond p x xs false is = absurd cc

-- where each passes, all are left
pub all_pass : {X : Type 0} (p : X → Bool) (xs : List X) → Every (λ x. p x ≡ true) xs → filter p xs ≡ xs
all_pass p [] all = refl
all_pass p (x ∷ xs) all = ap (λ ys. cond (p x) (x ∷ ys) ys) (all_pass p xs all.1) ∙ all_pass-cond p x xs (p x) all.0

drop_here : {X : Type 0} (x : X) (xs : List X) (b : Bool) → b ≡ false → cond b (x ∷ xs) xs ≡ xs
drop_here x xs true is = absurd cc
drop_here x xs false is = refl

-- to take out the k-th is to leave each that passes, where the k-th alone does not pass
pub filter_one : {X : Type 0} (p : X → Bool) (xs : List X) (k : ℕ) (y : X) → slice_get xs k ≡ Some y → p y ≡ false → EachPair (λ x z. (x ≡ y → p z ≡ true) × (z ≡ y → p x ≡ true)) xs
    → take k xs ++ drop (suc k) xs ≡ filter p xs
filter_one p [] k y is fails pairs = absurd cc
filter_one p (x ∷ xs) zero y is fails pairs =
    let same : x ≡ y = ap (λ o. unwrap_or o x) is in
    sym (drop_here x (filter p xs) (p x) (ap p same ∙ fails) ∙ all_pass p xs (Every-map _ _ (λ z h. h.0 same) xs pairs.0))
filter_one p (x ∷ xs) (suc k) y is fails pairs =
    let pair = Every-at (λ z. (x ≡ y → p z ≡ true) × (z ≡ y → p x ≡ true)) xs k y pairs.0 is in
    let passes : p x ≡ true = pair.1 refl in
    ap (λ zs. x ∷ zs) (filter_one p xs k y is fails pairs.1) ∙ sym (all_pass-cond p x (filter p xs) (p x) passes)

le-cond : {X : Type 0} (b : Bool) (x : X) (xs : List X) (n : ℕ) → length xs ≤ n → length (cond b (x ∷ xs) xs) ≤ n + 1
le-cond true x xs n h = omega arith
le-cond false x xs n h = omega arith

pub filter_le : {X : Type 0} (p : X → Bool) (xs : List X) → length (filter p xs) ≤ length xs
filter_le p [] = omega arith
filter_le p (x ∷ xs) = omega (arith, le-cond (p x) x (filter p xs) (length xs) (filter_le p xs))

less-cond : {X : Type 0} (b : Bool) (x : X) (xs : List X) (n : ℕ) → b ≡ false → length xs ≤ n → length (cond b (x ∷ xs) xs) < n + 1
less-cond true x xs n is h = absurd cc
less-cond false x xs n is h = omega arith

less-rest : {X : Type 0} (b : Bool) (x : X) (xs : List X) (n : ℕ) → length xs < n → length (cond b (x ∷ xs) xs) < n + 1
less-rest true x xs n h = omega arith
less-rest false x xs n h = omega arith

-- where one does not pass, fewer are left
pub filter_less : {X : Type 0} (p : X → Bool) (xs : List X) (y : X) → Among y xs → p y ≡ false → length (filter p xs) < length xs
filter_less p [] y h fails = absurd h
filter_less p (x ∷ xs) y h fails = elim h [
  | inl same ↦ omega (arith, less-cond (p x) x (filter p xs) (length xs) (ap p same ∙ fails) (filter_le p xs))
  | inr later ↦ omega (arith, less-rest (p x) x (filter p xs) (length xs) (filter_less p xs y later fails))
]

pub eqb_same : (n : ℕ) → (n == n) ≡ true
eqb_same n = eq-eqb n n refl

pub Every-set : {X : Type 0} (P : X → Type 0) (xs : List X) (k : ℕ) (y : X) → Every P xs → P y → Every P (slice_set xs k y)
Every-set P [] k y all here = tt
Every-set P (x ∷ xs) zero y all here = (here, all.1)
Every-set P (x ∷ xs) (suc k) y all here = (all.0, Every-set P xs k y all.1 here)

-- another item at a place that stands to each other one as the one there
pub EachPair-set : {X : Type 0} (R : X → X → Type 0) (xs : List X) (k : ℕ) (r y : X) → ((z : X) → R r z → R y z) → ((z : X) → R z r → R z y) → EachPair R xs → slice_get xs k ≡ Some r → EachPair R (slice_set xs k y)
EachPair-set R [] k r y left right pairs is = tt
EachPair-set R (x ∷ xs) zero r y left right pairs is =
    (Every-map (R x) (R y) (λ z h. left z (subst (λ w. R w z) (ap (λ o. unwrap_or o x) is) h)) xs pairs.0, pairs.1)
EachPair-set R (x ∷ xs) (suc k) r y left right pairs is =
    (Every-set (R x) xs k y pairs.0 (right x (Every-at (R x) xs k r pairs.0 is)), EachPair-set R xs k r y left right pairs.1 is)
