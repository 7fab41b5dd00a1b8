-- The numbers of calls that lines told of.
use Rattle.std.specs.Prelude.{◌≡◌, ℕ, Bool, false, max, List, [], ◌∷◌, slice_index_or, ◌↔◌}
use Rattle.audit_core.specs.Steps.{Step, ran, cancelled, named, IsUnused}

-- the greatest number; 0 where there is none
abbrev pub greatest_in : List Step → ℕ
greatest_in [] = 0
greatest_in (ran c reply ∷ steps) = max c.number (greatest_in steps)
greatest_in (cancelled c ∷ steps) = max c.number (greatest_in steps)
greatest_in (named session client ∷ steps) = greatest_in steps

-- a step is of the call of this number
abbrev pub HasNumber : ℕ → Step → Type 0
HasNumber number (ran c reply) = c.number ≡ number
HasNumber number (cancelled c) = c.number ≡ number
HasNumber number (named session client) = ⊥

-- the numbers that are marked are those of the steps, and this is the greatest
pub record AreNumbers (used : List Bool) (greatest : ℕ) (steps : List Step) : Type 0 where
  pub marked : (number : ℕ) → (slice_index_or used number false ≡ false) ↔ IsUnused number steps
  pub most : greatest ≡ greatest_in steps
