-- Objects that go on.
use Rattle.std.proofs.Common.{◌≡◌, ◌≢◌, inl, inr, ◌∙◌, ap, sym, subst, refl, arith, ℕ, zero, suc, ◌<◌, List, [], ◌∷◌, ◌++◌, length, append_assoc, eqb-true}
use Rattle.std.specs.Prelude.{Bool, true, false, Some, slice_get, slice_set, if◌then◌else◌, ◌==◌}
use Rattle.std.proofs.lemmas.Bool.Decides.{eqb_tells}
use Rattle.std.proofs.lemmas.List.{append-nil, length-set}
use Rattle.std.proofs.lemmas.Option.{same_Some, slice_get_within}
use Rattle.live_core.specs.Scene.{Scene}
use Rattle.live_core.specs.HostedSteps.{Steps, rests, goes_on}
use Rattle.keep_loop.specs.Texts.{to}
use Rattle.client_core.specs.Moves.{Moves}

-- what is for one in two lists
pub to_more : (c : ℕ) (said more : List (ℕ × List ℕ)) → to c (said ++ more) ≡ to c said ++ to c more
to_more c [] more = refl
to_more c (s ∷ said) more =
    let one : List ℕ = if s.0 == c then s.1 else [] in
    ap (λ (l : List ℕ). one ++ l) (to_more c said more) ∙ sym (append_assoc one (to c said) (to c more))

-- objects that are as they were
pub moves_none : (scenes : List Scene) → Moves scenes [] scenes
moves_none scenes = record {
  count = refl;
  steps = λ j h k was is. subst (λ x. Steps h [] x) (same_Some h k (sym was ∙ is)) rests;
}

-- objects that go on and on
pub moves_then : (a b c : List Scene) (added further : List (ℕ × List ℕ)) → Moves a added b → Moves b further c → Moves a (added ++ further) c
moves_then a b c added further one two = record {
  count = two.count ∙ one.count;
  steps = λ j h k was is.
      let within : j < length b = omega (arith, slice_get_within c j k is, two.count) in
      let m = get_at b j within in
      subst (λ lines. Steps h lines k) (sym (to_more j added further))
      (goes_on (one.steps j h m.0 was m.1) (two.steps j m.0 k m.1 is));
}
  where
    get_at : (xs : List Scene) (j : ℕ) → j < length xs → (m : Scene) × (slice_get xs j ≡ Some m)
    get_at [] j within = absurd (omega (arith, within))
    get_at (x ∷ xs) zero within = (x, refl)
    get_at (x ∷ xs) (suc j) within = get_at xs j (omega (arith, within))

set_here : (xs : List Scene) (k : ℕ) (z x y : Scene) → slice_get xs k ≡ Some z → slice_get (slice_set xs k x) k ≡ Some y → x ≡ y
set_here [] k z x y there is = absurd (grind (arith, there))
set_here (w ∷ xs) zero z x y there is = same_Some x y is
set_here (w ∷ xs) (suc k) z x y there is = set_here xs k z x y there is

set_other : (xs : List Scene) (i j : ℕ) (x : Scene) → i ≢ j → slice_get (slice_set xs i x) j ≡ slice_get xs j
set_other [] i j x ne = refl
set_other (y ∷ xs) zero zero x ne = absurd (ne refl)
set_other (y ∷ xs) zero (suc j) x ne = refl
set_other (y ∷ xs) (suc i) zero x ne = refl
set_other (y ∷ xs) (suc i) (suc j) x ne = set_other xs i j x (λ e. ne (ap suc e))

apart : (m n : ℕ) → (m == n) ≡ false → m ≢ n
apart m n h same = elim (eqb_tells m n) [ inl x ↦ absurd (let e : true ≡ false = sym x.0 ∙ h in cc) | inr x ↦ x.1 same ]

-- one object goes on, and the others are as they were
pub moves_one : (scenes : List Scene) (at : ℕ) (old new : Scene) (lines : List ℕ) → slice_get scenes at ≡ Some old → Steps old lines new →
    Moves scenes ((at, lines) ∷ []) (slice_set scenes at new)
moves_one scenes at old new lines there goes = record {
  count = length-set scenes at new;
  steps = λ j h k was is. one j h k was is (at == j) refl;
}
  where
    one : (j : ℕ) (h k : Scene) → slice_get scenes j ≡ Some h → slice_get (slice_set scenes at new) j ≡ Some k → (b : Bool) → (at == j) ≡ b →
        Steps h ((if at == j then lines else []) ++ []) k
    one j h k was is true same =
        let at_is : at ≡ j = eqb-true at j same in
        let h_is : old ≡ h = same_Some old h (sym there ∙ ap (slice_get scenes) at_is ∙ was) in
        let k_is : new ≡ k = set_here scenes at old new k there (subst (λ n. slice_get (slice_set scenes at new) n ≡ Some k) (sym at_is) is) in
        subst (λ b. Steps h ((if b then lines else []) ++ []) k) (sym same)
        (subst (λ l. Steps h l k) (sym (append-nil lines)) (subst (λ x. Steps h lines x) k_is (subst (λ x. Steps x lines new) h_is goes)))
    one j h k was is false other =
        let same : h ≡ k = same_Some h k (sym was ∙ sym (set_other scenes at j new (apart at j other)) ∙ is) in
        subst (λ b. Steps h ((if b then lines else []) ++ []) k) (sym other) (subst (λ x. Steps h [] x) same rests)

-- no lines are for nobody
none_to : (at j : ℕ) → to j ((at, []) ∷ []) ≡ []
none_to at j = by (at == j)
  where
    nothing : List ℕ
    nothing = []

    by : (b : Bool) → (if b then nothing else nothing) ++ nothing ≡ nothing
    by true = refl
    by false = refl

-- one object goes on, and no line tells of it
pub moves_quiet : (scenes : List Scene) (at : ℕ) (old new : Scene) → slice_get scenes at ≡ Some old → Steps old [] new → Moves scenes [] (slice_set scenes at new)
moves_quiet scenes at old new there goes =
    let m = moves_one scenes at old new [] there goes in
    record { count = m.count; steps = λ j h k was is. subst (λ l. Steps h l k) (none_to at j) (m.steps j h k was is) }
