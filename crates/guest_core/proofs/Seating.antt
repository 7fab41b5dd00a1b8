-- The numbers of sessions, one after the other.
use Rattle.std.proofs.Common.{◌≡◌, ◌≢◌, ℕ, zero, suc, ◌+◌, ◌<◌, ◌≤◌, inl, inr, List, [], ◌∷◌, ◌++◌, length, get_or, take, drop, map, replicate, Some, refl, ◌∙◌, ap, subst, arith}
use Rattle.std.specs.Prelude.{slice_get}
use Rattle.std.proofs.lemmas.List.{append-nil, take_all, drop_all}
use Rattle.std.proofs.lemmas.Bool.{cases_eq}
use lib.ListN.{set}
use Rattle.guest_core.specs.declared.seats.SeatHolder.{SeatHolder}
use Rattle.guest_core.specs.declared.seats.SeatHolder.TheVariants.{Void, Free}
use Rattle.guest_core.specs.Seats.{NoneIsFree, renewed}
use Rattle.guest_core.proofs.Items.{one_item, get_within}

pub replicate_more : {X : Type 0} (n : ℕ) (x : X) → replicate n x ++ x ∷ [] ≡ replicate (n + 1) x
replicate_more zero x = refl
replicate_more (suc n) x = let e : suc (n + 1) ≡ suc n + 1 = omega arith in ap (λ xs. x ∷ xs) (replicate_more n x) ∙ ap (λ m. replicate m x) e

length_replicate : {X : Type 0} (n : ℕ) (x : X) → length (replicate n x) ≡ n
length_replicate zero x = refl
length_replicate (suc n) x = omega (arith, length_replicate n x)

pub length_free : (n : ℕ) (xs : List SeatHolder) → xs ≡ Void ∷ replicate n Free → length xs ≡ n + 1
length_free n xs is = ap length is ∙ (let e = length_replicate n Free in omega (arith, e))

-- no number below one more is free
pub low_more : (seats : List SeatHolder) (low : ℕ) (seat : SeatHolder) → slice_get seats low ≡ Some seat → seat ≢ Free → ((k : ℕ) → k < low → slice_get seats k ≢ Some Free) → (k : ℕ) → k < low + 1 → slice_get seats k ≢ Some Free
low_more seats low seat there other below k within is = elim (cases_eq k low) [
  | inl same ↦ other (one_item seats low seat Free there (subst (λ n. slice_get seats n ≡ Some Free) same is))
  | inr apart ↦ below k (omega (arith, within, apart)) is
]

pub none_free : (seats : List SeatHolder) (low : ℕ) → length seats ≤ low → ((k : ℕ) → k < low → slice_get seats k ≢ Some Free) → NoneIsFree seats
none_free seats low all below k is = below k (omega (arith, all, get_within seats k Free is)) is

step : (k : ℕ) (old : List SeatHolder) (r : SeatHolder) → k < length old → r ≡ get_or (map renewed (take k old) ++ drop k old) k r →
    set (map renewed (take k old) ++ drop k old) k (renewed r) ≡ map renewed (take (k + 1) old) ++ drop (k + 1) old
step k [] r within is = absurd (omega (arith, within))
step zero (c ∷ old) r within is = ap (λ (x : SeatHolder). renewed x ∷ old) is
step (suc k) (c ∷ old) r within is =
    let e : suc (k + 1) ≡ suc k + 1 = omega arith in
    ap (λ (xs : List SeatHolder). renewed c ∷ xs) (step k old r (omega (arith, within)) is) ∙ ap (λ m. map renewed (take m (c ∷ old)) ++ drop m (c ∷ old)) e

pub next_renewed : (k : ℕ) (old now : List SeatHolder) (r new : SeatHolder) → k < length old → now ≡ map renewed (take k old) ++ drop k old → r ≡ get_or now k r → new ≡ renewed r →
    set now k new ≡ map renewed (take (k + 1) old) ++ drop (k + 1) old
next_renewed k old now r new within now_is is same =
    ap (λ (xs : List SeatHolder). set xs k new) now_is ∙ ap (set (map renewed (take k old) ++ drop k old) k) same
    ∙ step k old r within (subst (λ (xs : List SeatHolder). r ≡ get_or xs k r) now_is is)

pub all_renewed : (k : ℕ) (old : List SeatHolder) → length old ≤ k → map renewed (take k old) ++ drop k old ≡ map renewed old
all_renewed k old past =
    ap (λ xs. map renewed xs ++ drop k old) (take_all k old past) ∙ ap (λ xs. map renewed old ++ xs) (drop_all k old past) ∙ append-nil (map renewed old)
