-- Places of a list, one of which is changed.
use Rattle.std.proofs.Common.{◌≡◌, ℕ, zero, suc, ◌<◌, ◌%◌, List, [], ◌∷◌, refl, sym, ◌∙◌, ap, length, arith, eqb-true, true≢false, eq-eqb, Some}
use Rattle.std.specs.Prelude.{Bool, true, false, Option, None, slice_get, slice_set, slice_index_or, if◌then◌else◌, ◌==◌}
use Rattle.keep_loop.specs.Posts.{stage_in, stage_at, staged, stage_of}
use Rattle.keep_loop.specs.declared.post.ConnectionPlace.{ConnectionPlace}
use Rattle.keep_loop.specs.declared.post.Stage.{Stage}
use Rattle.keep_loop.specs.declared.post.Stage.TheVariants.{Gone, Hears}

set_here : {X : Type 0} (xs : List X) (k : ℕ) (x : X) → k < length xs → slice_get (slice_set xs k x) k ≡ Some x
set_here [] k x within = absurd (omega (arith, within))
set_here (y ∷ xs) zero x within = refl
set_here (y ∷ xs) (suc k) x within = set_here xs k x (omega (arith, within))

set_other : {X : Type 0} (xs : List X) (j : ℕ) (x : X) (k : ℕ) → (j ≡ k → ⊥) → slice_get (slice_set xs j x) k ≡ slice_get xs k
set_other [] j x k not = refl
set_other (y ∷ xs) zero x zero not = absurd (not refl)
set_other (y ∷ xs) zero x (suc k) not = refl
set_other (y ∷ xs) (suc j) x zero not = refl
set_other (y ∷ xs) (suc j) x (suc k) not = set_other xs j x k (λ same. not (omega (arith, same)))

get_here : {X : Type 0} (xs : List X) (k : ℕ) (d : X) → k < length xs → slice_get xs k ≡ Some (slice_index_or xs k d)
get_here [] k d within = absurd (omega (arith, within))
get_here (y ∷ xs) zero d within = refl
get_here (y ∷ xs) (suc k) d within = get_here xs k d (omega (arith, within))

set_by : {X : Type 0} (F : Option X → Stage) (xs : List X) (at k : ℕ) (x : X) → at < length xs → (b : Bool) → (at == k) ≡ b →
    F (slice_get (slice_set xs at x) k) ≡ (if b then F (Some x) else F (slice_get xs k))
set_by F xs at k x within true is = ap (λ i. F (slice_get (slice_set xs at x) i)) (sym (eqb-true at k is)) ∙ ap F (set_here xs at x within)
set_by F xs at k x within false is = ap F (set_other xs at x k (λ same. true≢false (sym (eq-eqb at k same) ∙ is)))

restaged_by : (xs : List ConnectionPlace) (at k : ℕ) (old new : ConnectionPlace) (c : ℕ) (s : Stage) → at < length xs → old ≡ slice_index_or xs at old → new.who ≡ old.who → new.stage ≡ s →
    (b : Bool) → (at == k) ≡ b → (if b then stage_in c (Some new) else stage_in c (slice_get xs k)) ≡ (if b then staged c s (slice_get xs k) else stage_in c (slice_get xs k))
restaged_by xs at k old new c s within read who stage false is = refl
restaged_by xs at k old new c s within read who stage true is =
    ap (λ w. if w == c then new.stage else Gone) who ∙ ap (λ t. if old.who == c then t else Gone) stage
    ∙ ap (staged c s) (ap (λ p. Some p) read ∙ sym (get_here xs at old within) ∙ ap (λ i. slice_get xs i) (eqb-true at k is))

pub restaged : (xs : List ConnectionPlace) (at k : ℕ) (old new : ConnectionPlace) (c : ℕ) (s : Stage) → at < length xs → old ≡ slice_index_or xs at old → new.who ≡ old.who → new.stage ≡ s →
    stage_in c (slice_get (slice_set xs at new) k) ≡ (if at == k then staged c s (slice_get xs k) else stage_in c (slice_get xs k))
restaged xs at k old new c s within read who stage =
    set_by (stage_in c) xs at k new within (at == k) refl ∙ restaged_by xs at k old new c s within read who stage (at == k) refl

pub opened : (xs : List ConnectionPlace) (at k : ℕ) (new : ConnectionPlace) (c who : ℕ) → at < length xs → new.who ≡ who → new.stage ≡ Hears →
    stage_in c (slice_get (slice_set xs at new) k) ≡ (if at == k then (if who == c then Hears else Gone) else stage_in c (slice_get xs k))
opened xs at k new c who within is stage =
    set_by (stage_in c) xs at k new within (at == k) refl
    ∙ ap (λ s. if at == k then s else stage_in c (slice_get xs k)) (ap (λ w. if w == c then new.stage else Gone) is ∙ ap (λ t. if who == c then t else Gone) stage)

gone_in : (c : ℕ) (o : Option ConnectionPlace) → stage_at o ≡ Gone → stage_in c o ≡ Gone
gone_in c None is = refl
gone_in c (Some p) is = by_c (p.who == c)
  where
    by_c : (b : Bool) → (if b then p.stage else Gone) ≡ Gone
    by_c true = is
    by_c false = refl

pub nobody : (places : List ConnectionPlace) → ((k : ℕ) → stage_at (slice_get places k) ≡ Gone) → (c : ℕ) → stage_of places c ≡ Gone
nobody places none c = gone_in c (slice_get places (c % length places)) (none (c % length places))
