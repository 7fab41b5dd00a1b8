-- The steps of programs, as they lie in memory.
use Rattle.std.specs.Prelude.{◌≡◌, ℕ, ◌<◌, List, map, length, slice_index, slice_index_or}
use Rattle.path_tree.specs.Path.{Path}
use Rattle.path_count.specs.declared.program.Step.{Step}
use Rattle.path_count.specs.declared.program.Program.{Program}
use Rattle.path_count.specs.declared.object.OperationPrograms.{OperationPrograms}
use Rattle.path_count.specs.Program.{start_steps, finish_steps}
use Rattle.path_count.specs.Object.{programs_of}

abbrev pub steps_of : List Program → List (List Step)
steps_of programs = map (λ p. p.steps.items) programs

-- the programs of an operation are those of the paths that name it
pub record IsCompiled (paths : List Path) (op : ℕ) (o : OperationPrograms) : Type 0 where
  pub start : steps_of o.starts.items ≡ programs_of start_steps paths 0 op
  pub finish : steps_of o.finishes.items ≡ programs_of finish_steps paths 0 op

-- so for each operation
abbrev pub AreCompiled : List Path → List OperationPrograms → Type 0
AreCompiled paths all = (op : ℕ) (o : OperationPrograms) → op < length all → IsCompiled paths op (slice_index_or all op o)

-- each counter is 0
abbrev pub AllZero : List ℕ → Type 0
AllZero w = (k : ℕ) → slice_index w k ≡ 0
