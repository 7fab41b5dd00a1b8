-- Lists of bytes.
use Rattle.std.proofs.Common.{◌≡◌, ℕ, zero, suc, ◌+◌, ◌-◌, ◌<◌, ◌≤◌, ◌⊎◌, inl, inr, List, [], ◌∷◌, ◌++◌, length, take, drop, replicate, get_or, refl, sym, ap, ◌∙◌, arith, append_assoc, length-append}
use Rattle.std.proofs.Math.ListN.{get_or-append}
use Rattle.std.proofs.Math.Seq.{get_or-append_right, drop-nil}
use Rattle.std.proofs.lemmas.Bool.{cases_lt}
use Rattle.std.proofs.lemmas.List.{get_or_past, get_or-replicate, length-replicate, take_at, drop_at, length-take-le, length-drop}
use Rattle.value_bytes.specs.Laws.{AreBytes}
use Rattle.run_core.specs.Placed.{IsPlaced}

is_byte : (m n : ℕ) → m ≡ n → n < 256 → m < 256
is_byte m n is small = omega (arith, is, small)

-- bytes, and others behind them
pub both_bytes : (xs ys : List ℕ) → AreBytes xs → AreBytes ys → AreBytes (xs ++ ys)
both_bytes xs ys here behind i = at (cases_lt i (length xs)) where
  at : (i < length xs) ⊎ (length xs ≤ i) → get_or (xs ++ ys) i 0 < 256
  at (inl less) = is_byte _ _ (get_or-append xs ys 0 i less) (here i)
  at (inr far) = is_byte _ _ (get_or-append_right xs ys i 0 far) (behind (i - length xs))

pub front_bytes : (xs ys : List ℕ) → AreBytes (xs ++ ys) → AreBytes xs
front_bytes xs ys all i = at (cases_lt i (length xs)) where
  at : (i < length xs) ⊎ (length xs ≤ i) → get_or xs i 0 < 256
  at (inl less) = is_byte _ _ (sym (get_or-append xs ys 0 i less)) (all i)
  at (inr far) = is_byte _ _ (get_or_past xs i 0 far) (omega arith)

pub zero_bytes : (n : ℕ) → AreBytes (replicate n 0)
zero_bytes n i = at (cases_lt i n) where
  at : (i < n) ⊎ (n ≤ i) → get_or (replicate n 0) i 0 < 256
  at (inl less) = is_byte _ _ (get_or-replicate n i 0 0 less) (omega arith)
  at (inr far) = is_byte _ _ (get_or_past (replicate n 0) i 0 (omega (arith, far, length-replicate {A = ℕ} n 0))) (omega arith)

pub empty : (xs : List ℕ) → length xs ≡ 0 → xs ≡ []
empty [] none = refl
empty (x ∷ xs) none = absurd (omega (arith, none))

pub drop_more : (n k : ℕ) (xs : List ℕ) → drop k (drop n xs) ≡ drop (n + k) xs
drop_more zero k xs = ap (λ m. drop m xs) (omega arith)
drop_more (suc n) k [] = drop-nil k ∙ sym (drop-nil (suc n + k))
drop_more (suc n) k (x ∷ xs) =
    let next : suc (n + k) ≡ suc n + k = omega arith in
    drop_more n k xs ∙ ap (λ m. drop m (x ∷ xs)) next

-- others in the place of some bytes
pub placed : (before ys : List ℕ) (at k count : ℕ) → at + count ≤ length before → k ≡ count → length ys ≡ count → IsPlaced at count before (take at before ++ (ys ++ drop k (drop at before)))
placed before ys at k count within same long =
    let head : length (take at before) ≡ at = length-take-le at before (omega (arith, within)) in
    let rest : List ℕ = drop k (drop at before) in
    let both : length (take at before ++ ys) ≡ at + count = omega (arith, length-append (take at before) ys, head, long) in
    record {
      long = omega (arith, length-append (take at before) (ys ++ rest), length-append ys rest, length-drop k (drop at before), length-drop at before, head, long, same, within);
      front = take_at (take at before) (ys ++ rest) at head;
      behind = ap (drop (at + count)) (sym (append_assoc (take at before) ys rest)) ∙ drop_at (take at before ++ ys) rest (at + count) both ∙ ap (λ m. drop m (drop at before)) same ∙ drop_more at count before;
    }
