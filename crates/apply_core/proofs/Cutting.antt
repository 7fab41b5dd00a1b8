-- Bytes, cut behind the first eight.
use Rattle.std.proofs.Common.{◌≡◌, ℕ, ◌-◌, ◌≤◌, List, [], ◌∷◌, ◌++◌, length, take, drop, refl, sym, ap, ◌∙◌, arith}
use Rattle.std.specs.Prelude.{get_or}

taken_whole : (xs : List ℕ) → take (length xs) xs ≡ xs
taken_whole [] = refl
taken_whole (x ∷ xs) = ap (λ (ys : List ℕ). x ∷ ys) (taken_whole xs)

abbrev pub first_eight : List ℕ → List ℕ
first_eight bytes = get_or bytes 0 0 ∷ get_or bytes 1 0 ∷ get_or bytes 2 0 ∷ get_or bytes 3 0 ∷ get_or bytes 4 0 ∷ get_or bytes 5 0 ∷ get_or bytes 6 0 ∷ get_or bytes 7 0 ∷ []

abbrev pub behind_eight : List ℕ → List ℕ
behind_eight bytes = take (length bytes - 8) (drop 8 bytes)

pub cut_eight : (bytes : List ℕ) → 8 ≤ length bytes → bytes ≡ first_eight bytes ++ behind_eight bytes
cut_eight [] few = absurd (omega (arith, few))
cut_eight (a ∷ []) few = absurd (omega (arith, few))
cut_eight (a ∷ b ∷ []) few = absurd (omega (arith, few))
cut_eight (a ∷ b ∷ c ∷ []) few = absurd (omega (arith, few))
cut_eight (a ∷ b ∷ c ∷ d ∷ []) few = absurd (omega (arith, few))
cut_eight (a ∷ b ∷ c ∷ d ∷ e ∷ []) few = absurd (omega (arith, few))
cut_eight (a ∷ b ∷ c ∷ d ∷ e ∷ f ∷ []) few = absurd (omega (arith, few))
cut_eight (a ∷ b ∷ c ∷ d ∷ e ∷ f ∷ g ∷ []) few = absurd (omega (arith, few))
cut_eight (a ∷ b ∷ c ∷ d ∷ e ∷ f ∷ g ∷ h ∷ rest) few =
    let many : length (a ∷ b ∷ c ∷ d ∷ e ∷ f ∷ g ∷ h ∷ rest) - 8 ≡ length rest = omega arith in
    ap (λ (r : List ℕ). a ∷ b ∷ c ∷ d ∷ e ∷ f ∷ g ∷ h ∷ r) (sym (ap (λ k. take k rest) many ∙ taken_whole rest))
