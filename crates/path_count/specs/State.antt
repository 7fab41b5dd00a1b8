-- What counters hold.
use Rattle.std.specs.Prelude.{ℕ, List}
use Rattle.path_count.specs.declared.program.Step.{Step}

pub record State : Type 0 where
  pub words : List ℕ
  pub starts : List (List (List Step))
  pub finishes : List (List (List Step))
  pub running : List ℕ
  pub taken : ℕ
