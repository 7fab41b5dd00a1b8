-- What stands at the front of a text.
use Rattle.std.proofs.Common.{◌≡◌, ℕ, Bool, true, false, ◌==◌, List, [], ◌∷◌, ◌++◌, refl, arith}
use Rattle.std.proofs.lemmas.Bool.{and_parts}
use Rattle.std.proofs.lemmas.Bool.Decides.{nat_tests}
use Rattle.std.proofs.lemmas.List.Elements.{All-head, All-tail}
use Rattle.value_core.specs.Runs.{NoLineFeed}
use Rattle.front_read.specs.Text.{begins}

same_byte : (b : ℕ) → (b == b) ≡ true
same_byte b = grind (arith, nat_tests)

byte_same : (b c : ℕ) → (b == c) ≡ true → b ≡ c
byte_same b c is = grind (arith, nat_tests)

pub begins-front : (front rest : List ℕ) → begins (front ++ rest) front ≡ true
begins-front [] rest = refl
begins-front (b ∷ front) rest = rw (same_byte b) (begins-front front rest)

pub front-begins : (text front : List ℕ) → begins text front ≡ true → (rest : List ℕ) × (text ≡ front ++ rest)
front-begins text [] is = (text, refl)
front-begins [] (b ∷ front) is = absurd (cc)
front-begins (c ∷ text) (b ∷ front) is =
    let parts = and_parts (c == b) (begins text front) is in
    let head : c ≡ b = byte_same c b parts.0 in
    let more = front-begins text front parts.1 in
    (more.0, λ i. head i ∷ more.1 i)

-- a text that does not begin so
pub not_begun : (text front : List ℕ) → ((rest : List ℕ) → text ≡ front ++ rest → ⊥) → begins text front ≡ false
not_begun text front none = aux (begins text front) refl where
  aux : (b : Bool) → begins text front ≡ b → b ≡ false
  aux true is = let found = front-begins text front is in absurd (none found.0 found.1)
  aux false is = refl

-- the first line of a text
pub one_cut : (a b r s : List ℕ) → NoLineFeed a → NoLineFeed b → a ++ 10 ∷ r ≡ b ++ 10 ∷ s → (a ≡ b) × (r ≡ s)
one_cut [] [] r s p q same = (refl, let tails : r ≡ s = cc in tails)
one_cut [] (y ∷ b) r s p q same =
    let is : y ≡ 10 = cc in let isnt = All-head (λ z. (z == 10) ≡ false) y b q in absurd (grind (arith, nat_tests))
one_cut (x ∷ a) [] r s p q same =
    let is : x ≡ 10 = cc in let isnt = All-head (λ z. (z == 10) ≡ false) x a p in absurd (grind (arith, nat_tests))
one_cut (x ∷ a) (y ∷ b) r s p q same =
    let heads : x ≡ y = cc in
    let tails : a ++ 10 ∷ r ≡ b ++ 10 ∷ s = cc in
    let more = one_cut a b r s (All-tail (λ z. (z == 10) ≡ false) x a p) (All-tail (λ z. (z == 10) ≡ false) y b q) tails in
    ((λ i. heads i ∷ more.0 i), more.1)

pub no_cut : (line rest : List ℕ) → NoLineFeed (line ++ 10 ∷ rest) → ⊥
no_cut [] rest p = let isnt = All-head (λ z. (z == 10) ≡ false) 10 rest p in absurd (grind (arith, nat_tests))
no_cut (x ∷ line) rest p = no_cut line rest (All-tail (λ z. (z == 10) ≡ false) x (line ++ 10 ∷ rest) p)
