-- What one walk over a path finds of two operations.
use Rattle.std.specs.Prelude.{ℕ, ◌+◌, ◌-◌, ◌==◌, nat_lt, ◌||◌, ◌&&◌, Bool, false, Option, Some, None, if◌then◌else◌}
use Rattle.path_tree.specs.Path.{Path, Paths, name, list, sequence, bound, burst, two, more}
use Rattle.path_tree.specs.Names.{names, some_names}
use Rattle.path_tree.specs.Limits.{node_count}

-- whether one of two operations is named here and the other one there
abbrev pub stand_apart : (ℕ → Bool) → (ℕ → Bool) → ℕ → ℕ → Bool
stand_apart here there a b = (here a && there b) || (here b && there a)

-- whether two operations meet openly in a node
abbrev mutual
  pub meets : Path → ℕ → ℕ → Bool
  meets (name op) a b = (a == op) && (b == op)
  meets (list ms) a b = some_meets ms a b
  meets (sequence ms) a b = some_meets ms a b
  meets (bound n e) a b = meets e a b
  meets (burst e) a b = false

  pub some_meets : Paths → ℕ → ℕ → Bool
  some_meets (two e f) a b = meets e a b || (meets f a b || stand_apart (names e) (names f) a b)
  some_meets (more e rest) a b = meets e a b || (some_meets rest a b || stand_apart (names e) (some_names rest) a b)

-- the number of a node where so many nodes more are counted before it
abbrev pub further : ℕ → Option ℕ → Option ℕ
further n None = None
further n (Some k) = Some (n + k)

-- the first of two
abbrev pub first_of : Option ℕ → Option ℕ → Option ℕ
first_of (Some k) other = Some k
first_of None other = other

-- the first node that separates two operations
abbrev mutual
  pub separation : Path → ℕ → ℕ → Option ℕ
  separation (name op) a b = None
  separation (list ms) a b = further 1 (separation_among ms a b)
  separation (sequence ms) a b = further 1 (separation_among ms a b)
  separation (bound n e) a b = if (n == 1) && meets e a b then Some 0 else further 1 (separation e a b)
  separation (burst e) a b = further 1 (separation e a b)

  pub separation_among : Paths → ℕ → ℕ → Option ℕ
  separation_among (two e f) a b = first_of (separation e a b) (further (node_count e) (separation f a b))
  separation_among (more e rest) a b = first_of (separation e a b) (further (node_count e) (separation_among rest a b))

-- whether the node of this number separates two operations
abbrev mutual
  pub separates_at : Path → ℕ → ℕ → ℕ → Bool
  separates_at (name op) k a b = false
  separates_at (list ms) k a b = nat_lt 0 k && one_separates_at ms (k - 1) a b
  separates_at (sequence ms) k a b = nat_lt 0 k && one_separates_at ms (k - 1) a b
  separates_at (bound n e) k a b = if k == 0 then (n == 1) && meets e a b else separates_at e (k - 1) a b
  separates_at (burst e) k a b = nat_lt 0 k && separates_at e (k - 1) a b

  -- whether the node of this number of some members separates two operations, where the first node of the first one has
  -- number 0
  pub one_separates_at : Paths → ℕ → ℕ → ℕ → Bool
  one_separates_at (two e f) k a b =
      if nat_lt k (node_count e) then separates_at e k a b else separates_at f (k - node_count e) a b
  one_separates_at (more e rest) k a b =
      if nat_lt k (node_count e) then separates_at e k a b else one_separates_at rest (k - node_count e) a b
