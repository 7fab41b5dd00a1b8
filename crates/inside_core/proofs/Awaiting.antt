-- For how long calls wait.
use Rattle.std.proofs.Common.{◌≡◌, ◌∙◌, ℕ, ◌+◌, ◌<◌, ◌≤◌, ◌⊎◌, length, ap, subst, sym, refl, arith, inl, inr}
use Rattle.std.specs.Prelude.{false, Option, Some, None, slice_get}
use Rattle.std.proofs.lemmas.Bool.{cases_lt}
use Rattle.std.proofs.lemmas.Option.{slice_get_past}
use Rattle.word_core.specs.Events.{Called}
use Rattle.live_core.specs.Scene.{Scene}
use Rattle.client_core.specs.State.{opened_in}
use Rattle.client_core.specs.ToldInside.{Crowd, is_caller, calls_at}
use Rattle.inside_core.specs.Looks.{WaitsSo, Awaited, IsLongest}

-- at a place where nobody is nobody waits
nobody : (crowd : Crowd) (session told place : ℕ) → length crowd.peers ≤ place → calls_at crowd session told place ≡ false
nobody crowd session told place past =
    ap (λ p. is_caller crowd.at session told (opened_in p)) (slice_get_past crowd.peers place past)

-- all places are looked at
pub none_at_all : (crowd : Crowd) (session told k : ℕ) → length crowd.peers ≤ k → ((place : ℕ) → place < k → calls_at crowd session told place ≡ false) →
    (place : ℕ) → calls_at crowd session told place ≡ false
none_at_all crowd session told k all none place = elim (cases_lt place k) [
  | inl x ↦ none place x
  | inr x ↦ nobody crowd session told place (omega (arith, all, x))
]

-- one place more is looked at
pub none_more : (crowd : Crowd) (session told k : ℕ) → ((place : ℕ) → place < k → calls_at crowd session told place ≡ false) →
    calls_at crowd session told k ≡ false → (place : ℕ) → place < k + 1 → calls_at crowd session told place ≡ false
none_more crowd session told k none here place inside = elim (cases_lt place k) [
  | inl x ↦ none place x
  | inr x ↦ let same : place ≡ k = omega (arith, x, inside) in subst (λ p. calls_at crowd session told p ≡ false) (sym same) here
]

-- of the calls of an operation before this place none waits longer, and one so long, where it is not 0
pub record LongestBefore (crowd : Crowd) (object : Scene) (operation k seconds : ℕ) : Type 0 where
  pub none_longer : (c : Called) (one : Awaited object operation c) → one.place < k → (t : ℕ) × WaitsSo crowd object c t × (t ≤ seconds)
  pub so_long : (seconds ≡ 0) ⊎ ((c : Called) × Awaited object operation c × WaitsSo crowd object c seconds)

pub longest_none : (crowd : Crowd) (object : Scene) (operation : ℕ) → LongestBefore crowd object operation 0 0
longest_none crowd object operation =
    record { none_longer = λ c one before. absurd (omega (arith, before)); so_long = inl refl }

some_is : {X : Type 0} {x y : X} → ◌≡◌ {A = Option X} (Some x) (Some y) → x ≡ y
some_is same = cc

some_none : {X : Type 0} {x : X} → ◌≡◌ {A = Option X} None (Some x) → ⊥
some_none same = cc

-- a call that waits for at most so long waits for at most longer
no_longer : (crowd : Crowd) (object : Scene) (c : Called) (less more : ℕ) → less ≤ more → (t : ℕ) × WaitsSo crowd object c t × (t ≤ less) →
    (t : ℕ) × WaitsSo crowd object c t × (t ≤ more)
no_longer crowd object c less more most (t, waits, within) = (t, waits, omega (arith, within, most))

-- one call more is looked at
pub longest_more : (crowd : Crowd) (object : Scene) (operation k before here after : ℕ) (d : Called) → LongestBefore crowd object operation k before →
    slice_get object.hall.waiting k ≡ Some d → (d.operation ≡ operation → WaitsSo crowd object d here) → (here ≡ 0) ⊎ (d.operation ≡ operation) →
    before ≤ after → here ≤ after → (after ≡ before) ⊎ (after ≡ here) → LongestBefore crowd object operation (k + 1) after
longest_more crowd object operation k before here after d was there waits other one two which = record {
  none_longer = λ c call inside. elim (cases_lt call.place k) [
    | inl x ↦ no_longer crowd object c before after one (was.none_longer c call x)
    | inr x ↦
        let same : call.place ≡ k = omega (arith, x, inside) in
        let is : d ≡ c = some_is (sym there ∙ ap (slice_get object.hall.waiting) (sym same) ∙ call.there) in
        (here, subst (λ e. WaitsSo crowd object e here) is (waits (ap (λ (e : Called). e.operation) is ∙ call.of)), two)
  ];
  so_long = elim which [
    | inl x ↦ subst (λ n. (n ≡ 0) ⊎ ((c : Called) × Awaited object operation c × WaitsSo crowd object c n)) (sym x) was.so_long
    | inr x ↦ elim other [
      | inl none ↦ inl (x ∙ none)
      | inr of ↦ inr (d, record { place = k; there = there; of = of }, subst (λ n. WaitsSo crowd object d n) (sym x) (waits of))
    ]
  ];
}

-- all are looked at
pub longest_of_all : (crowd : Crowd) (object : Scene) (operation k seconds : ℕ) → length object.hall.waiting ≤ k → LongestBefore crowd object operation k seconds →
    IsLongest crowd object operation seconds
longest_of_all crowd object operation k seconds all is = record {
  none_longer = λ c one. elim (cases_lt one.place k) [
    | inl x ↦ is.none_longer c one x
    | inr x ↦ absurd (some_none (sym (slice_get_past object.hall.waiting one.place (omega (arith, all, x))) ∙ one.there))
  ];
  so_long = is.so_long;
}
