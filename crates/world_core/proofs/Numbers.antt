-- Calls with their numbers.
use Rattle.std.proofs.Common.{◌≡◌, ℕ, zero, suc, ◌+◌, ◌≤◌, List, [], ◌∷◌, length, Some, None, drop, refl, sym, ◌∙◌, ap, ap₂, add-one, arith}
use Rattle.std.specs.Prelude.{slice_get, unwrap_or}
use Rattle.page_core.specs.ObjectCalls.{AcceptedCall}
use Rattle.world_core.specs.Told.{numbered}

drop_nil : {X : Type 0} (k : ℕ) → drop {A = X} k [] ≡ []
drop_nil zero = refl
drop_nil (suc k) = refl

next_so : (n k : ℕ) (calls : List AcceptedCall) (call : AcceptedCall) → slice_get calls k ≡ Some call → drop k (numbered n calls) ≡ record { number = n + k; call = call } ∷ drop (suc k) (numbered n calls)
next_so n k [] call is = absurd cc
next_so n zero (c ∷ calls) call is =
    ap₂ (λ (m : ℕ) (x : AcceptedCall). record { number = m; call = x } ∷ numbered (n + 1) calls) (omega arith) (ap (λ o. unwrap_or o c) is)
next_so n (suc k) (c ∷ calls) call is =
    next_so (n + 1) k calls call is ∙ ap (λ m. record { number = m; call = call } ∷ drop (suc k) (numbered (n + 1) calls)) (omega arith)

-- behind so many calls stands this one
pub next_call : (k : ℕ) (calls : List AcceptedCall) (call : AcceptedCall) → slice_get calls k ≡ Some call → drop k (numbered 1 calls) ≡ record { number = k + 1; call = call } ∷ drop (k + 1) (numbered 1 calls)
next_call k calls call is =
    next_so 1 k calls call is
    ∙ ap₂ (λ (m j : ℕ). record { number = m; call = call } ∷ drop j (numbered 1 calls)) (omega arith) (sym (add-one k))

-- behind all of them stands none
pub past_all : (n k : ℕ) (calls : List AcceptedCall) → length calls ≤ k → drop k (numbered n calls) ≡ []
past_all n k [] less = drop_nil k
past_all n zero (c ∷ calls) less = absurd (omega (arith, less))
past_all n (suc k) (c ∷ calls) less = past_all (n + 1) k calls (omega (arith, less))

pub none_past : (k : ℕ) (calls : List AcceptedCall) → slice_get calls k ≡ None → length calls ≤ k
none_past k [] is = omega arith
none_past zero (c ∷ calls) is = absurd cc
none_past (suc k) (c ∷ calls) is = omega (arith, none_past k calls is)

-- where none stands there, none stands behind it
pub none_next : (k : ℕ) (calls : List AcceptedCall) → slice_get calls k ≡ None → drop k (numbered 1 calls) ≡ drop (k + 1) (numbered 1 calls)
none_next k calls is =
    let less = none_past k calls is in
    past_all 1 k calls less ∙ sym (past_all 1 (k + 1) calls (omega (arith, less)))
