-- Calls that get their numbers one by one.
use Rattle.std.proofs.Common.{◌≡◌, ◌≢◌, ◌≤◌, ℕ, zero, suc, ◌+◌, ◌<◌, List, [], ◌∷◌, ◌++◌, length, get_or, take, drop, ◌∙◌, ap, subst, arith}
use lib.ListN.{set}
use Rattle.word_core.specs.Events.{Called}
use Rattle.live_core.specs.Hall.{Every, EachPair}
use Rattle.live_core.specs.Epochs.{numbered_from}

step : (n k : ℕ) (old : List Called) (r new : Called) → k < length old → r ≡ get_or (numbered_from n (take k old) ++ drop k old) k r → new ≡ record r { number = n + k + 1 } →
    set (numbered_from n (take k old) ++ drop k old) k new ≡ numbered_from n (take (k + 1) old) ++ drop (k + 1) old
step n k [] r new within is same = absurd (omega (arith, within))
step n zero (c ∷ old) r new within is same =
    let number : n + 0 + 1 ≡ n + 1 = omega arith in
    ap (λ (x : Called). x ∷ old) (same ∙ ap (λ m. record r { number = m }) number ∙ ap (λ (x : Called). record x { number = n + 1 }) is)
step n (suc k) (c ∷ old) r new within is same =
    let e : suc (k + 1) ≡ suc k + 1 = omega arith in
    let number : n + suc k + 1 ≡ n + 1 + k + 1 = omega arith in
    let h : Called = record c { number = n + 1 } in
    ap (λ (xs : List Called). h ∷ xs) (step (n + 1) k old r new (omega (arith, within)) is (same ∙ ap (λ m. record r { number = m }) number))
    ∙ ap (λ m. numbered_from n (take m (c ∷ old)) ++ drop m (c ∷ old)) e

pub next_number : (k : ℕ) (old now : List Called) (r new : Called) → k < length old → now ≡ numbered_from 0 (take k old) ++ drop k old → r ≡ get_or now k r → new ≡ record r { number = k + 1 } →
    set now k new ≡ numbered_from 0 (take (k + 1) old) ++ drop (k + 1) old
next_number k old now r new within now_is is same =
    let number : k + 1 ≡ 0 + k + 1 = omega arith in
    ap (λ (xs : List Called). set xs k new) now_is
    ∙ step 0 k old r new within (subst (λ (xs : List Called). r ≡ get_or xs k r) now_is is) (same ∙ ap (λ m. record r { number = m }) number)

above : (k n : ℕ) (calls : List Called) → k ≤ n → Every (λ (d : Called). k < d.number) (numbered_from n calls)
above k n [] less = tt
above k n (c ∷ calls) less = (omega (arith, less), above k (n + 1) calls (omega (arith, less)))

pub numbered_in_order : (n : ℕ) (calls : List Called) → EachPair (λ (c d : Called). c.number < d.number) (numbered_from n calls)
numbered_in_order n [] = tt
numbered_in_order n (c ∷ calls) = (above (n + 1) (n + 1) calls (omega arith), numbered_in_order (n + 1) calls)

other_sessions : (session n : ℕ) (calls : List Called) → Every (λ (d : Called). session ≢ d.session) calls → Every (λ (d : Called). session ≢ d.session) (numbered_from n calls)
other_sessions session n [] all = tt
other_sessions session n (c ∷ calls) all = (all.0, other_sessions session (n + 1) calls all.1)

pub one_each : (n : ℕ) (calls : List Called) → EachPair (λ (c d : Called). c.session ≢ d.session) calls → EachPair (λ (c d : Called). c.session ≢ d.session) (numbered_from n calls)
one_each n [] pairs = tt
one_each n (c ∷ calls) pairs = (other_sessions c.session (n + 1) calls pairs.0, one_each (n + 1) calls pairs.1)
