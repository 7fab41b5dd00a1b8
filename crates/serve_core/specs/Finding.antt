-- What an earlier run left in a folder.
use Rattle.std.specs.Prelude.{ℕ, List}

-- the numbers of its value files, and the number with which the next run begins
pub record Finding : Type 0 where
  pub numbers : List ℕ
  pub first : ℕ
