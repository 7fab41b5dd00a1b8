-- Spaces before words.
use Rattle.std.proofs.Common.{◌≡◌, ◌≢◌, ℕ, Bool, true, false, List, [], ◌∷◌, refl, arith, if◌then◌else◌}
use Rattle.std.specs.Prelude.{◌==◌}
use Rattle.std.proofs.lemmas.Bool.Decides.{nat_tests}
use Rattle.value_core.specs.Spaces.{drop_spaces}

first_step : (a : ℕ) (line : List ℕ) (b : ℕ) (rest : List ℕ) (p : Bool) → (a == 32) ≡ p → ((b : ℕ) (rest : List ℕ) → drop_spaces line ≡ b ∷ rest → b ≢ 32)
    → (if p then drop_spaces line else a ∷ line) ≡ b ∷ rest → b ≢ 32
first_step a line b rest true h none same = none b rest same
first_step a line b rest false h none same = let e : a ≡ b = cc in λ wrong. grind (arith, nat_tests)

-- what is left begins with no space
pub drop_spaces-first : (line : List ℕ) (b : ℕ) (rest : List ℕ) → drop_spaces line ≡ b ∷ rest → b ≢ 32
drop_spaces-first [] b rest h = cc
drop_spaces-first (a ∷ line) b rest h = first_step a line b rest (a == 32) refl (drop_spaces-first line) h

-- a line that begins with no space is left as it is
pub drop_spaces-none : (b : ℕ) (line : List ℕ) → b ≢ 32 → drop_spaces (b ∷ line) ≡ b ∷ line
drop_spaces-none b line h = let f : (b == 32) ≡ false = grind (arith, nat_tests) in rw f refl

drop_step : (b : ℕ) (line : List ℕ) (p : Bool) → (b == 32) ≡ p → drop_spaces (drop_spaces line) ≡ drop_spaces line → drop_spaces (if p then drop_spaces line else b ∷ line) ≡ (if p then drop_spaces line else b ∷ line)
drop_step b line true h same = same
drop_step b line false h same = drop_spaces-none b line (λ e. grind (arith, nat_tests))

pub drop_spaces-twice : (line : List ℕ) → drop_spaces (drop_spaces line) ≡ drop_spaces line
drop_spaces-twice [] = refl
drop_spaces-twice (b ∷ line) = drop_step b line (b == 32) refl (drop_spaces-twice line)
