-- The value files of a folder.
use Rattle.std.specs.Prelude.{◌≡◌, ◌⊎◌, ◌<◌, ◌≤◌, ◌^◌, ◌∷◌, [], ◌++◌, ℕ, List, All, codes, decimal}

-- the name of the value file of a number
abbrev pub value_name : ℕ → List ℕ
value_name n = decimal n ++ codes ".val"

-- it is the first number from 1 on that is above all of these
abbrev pub IsFirstAbove : List ℕ → ℕ → Type 0
IsFirstAbove numbers first =
    (1 ≤ first) × All (λ n. n < first) numbers
    × ((other : ℕ) → 1 ≤ other → All (λ n. n < other) numbers → first ≤ other)

-- it is the number of a value file of this name, from the first one up to the last one, which is left out
pub record IsNumberBetween (first end : ℕ) (name : List ℕ) (number : ℕ) : Type 0 where
  pub fits : number < 2 ^ 64
  pub named : name ≡ value_name number
  pub from : first ≤ number
  pub below : number < end

-- each of these is from the first one up to the last one, which is left out
abbrev pub AreBetween : ℕ → ℕ → List ℕ → Type 0
AreBetween first end numbers = All (λ n. (first ≤ n) × (n < end)) numbers

-- what a name adds to the numbers of a folder: the number of its value file, or nothing where it is no such name
abbrev pub AddsNumber : ℕ → ℕ → List ℕ → List ℕ → List ℕ → Type 0
AddsNumber first end name old new =
    ((number : ℕ) × IsNumberBetween first end name number × (new ≡ old ++ number ∷ []))
    ⊎ (((number : ℕ) → IsNumberBetween first end name number → ⊥) × (new ≡ old))
