-- The state of a run of `paths`, and what its lines told.
use Rattle.std.specs.Prelude.{◌≡◌, ℕ, Bool, true, false, List, [], length}
use Rattle.path_count.specs.declared.paths.machine.Paths.{Paths}
use Rattle.path_count.specs.Stands.{StandsFor}
use Rattle.path_count.specs.Asked.{Asked, path, asked_of}
use Rattle.path_count.specs.Told.{Told}
use Rattle.path_count.specs.Answers.{Answers}

-- a state stands for what the lines told
pub record Stands (state : Paths) (told : Told) : Type 0 where
  pub names : state.operations ≡ told.names
  pub paths : state.paths.items ≡ told.paths
  pub begun : state.begun ≡ told.begun
  pub unnamed : told.names ≡ [] → told.begun ≡ false
  pub none : told.begun ≡ false → told.trace ≡ []
  pub counted : told.begun ≡ true → StandsFor state.counters (length told.names) told.paths told.trace

-- the state stands for something that was told then, which this answer leaves
abbrev pub Leaves : Told → ℕ → List ℕ → List ℕ → Bool → Paths → Type 0
Leaves told number line text goes new = (after : Told) × Stands new after × Answers told number line text goes after

-- whatever the lines before told, a line that asks for this is answered so
abbrev pub Gives : Asked → Paths → ℕ → List ℕ → Bool → Paths → Type 0
Gives asked old number text goes new =
    (told : Told) (line : List ℕ) → Stands old told → asked_of line ≡ asked → Leaves told number line text goes new

-- whatever the lines before told, this line is answered so where it begins with `path`
abbrev pub GivesPath : List ℕ → Paths → ℕ → List ℕ → Bool → Paths → Type 0
GivesPath line old number text goes new =
    (told : Told) → Stands old told → asked_of line ≡ path → Leaves told number line text goes new

-- the answer to a line
abbrev pub PathsGives : Paths → ℕ → List ℕ → List ℕ → Bool → Paths → Type 0
PathsGives old number line text goes new = (told : Told) → Stands old told → Leaves told number line text goes new
