-- Which objects the analyser accepts.
use Rattle.std.specs.Prelude.{◌≡◌, ℕ, ◌+◌, ◌≤◌, ◌<◌, ◌⊎◌, Some, slice_get}
use Rattle.path_tree.specs.Path.{Path}
use Rattle.decl_core.specs.ObjectForm.{OperationForm, ObjectForm}
use Rattle.decl_core.specs.Touched.{ConflictAt}
use Rattle.decl_core.specs.Separates.{Separates}

-- the operations of these numbers conflict at this part
abbrev pub ConflictsAt : ObjectForm → ℕ → ℕ → ℕ → Type 0
ConflictsAt o i j p =
    (a : OperationForm) × (b : OperationForm) × (slice_get o.operations i ≡ Some a)
    × (slice_get o.operations j ≡ Some b) × ConflictAt a.statements b.statements p

-- they conflict at some part
abbrev pub Conflicts : ObjectForm → ℕ → ℕ → Type 0
Conflicts o i j = (p : ℕ) × ConflictsAt o i j p

-- this node of this path, paths counted from 1, separates the operations of these numbers
abbrev pub SeparatedBy : ObjectForm → ℕ → ℕ → ℕ → ℕ → Type 0
SeparatedBy o path node i j =
    (k : ℕ) × (e : Path) × (path ≡ k + 1) × (slice_get o.paths k ≡ Some e) × Separates e node i j

-- some node of some path separates them
abbrev pub AreSeparated : ObjectForm → ℕ → ℕ → Type 0
AreSeparated o i j = (path : ℕ) × (node : ℕ) × SeparatedBy o path node i j

-- An object is exclusive where each two operations that conflict, an operation and itself included, are separated by a
-- node of one of its paths.
abbrev pub IsExclusive : ObjectForm → Type 0
IsExclusive o = (i j : ℕ) → Conflicts o i j → AreSeparated o i j

-- a pair of operations stands before another one: by its first, and then by its second
abbrev pub PairBefore : ℕ → ℕ → ℕ → ℕ → Type 0
PairBefore a b i j = (a < i) ⊎ ((a ≡ i) × (b < j))

-- The first pair of operations that conflict, in order, which no node separates, with the first part at which they do.
pub record IsFirstUnseparated (o : ObjectForm) (i j p : ℕ) : Type 0 where
  pub in_order : i ≤ j
  pub conflict : ConflictsAt o i j p
  pub first_part : (q : ℕ) → ConflictsAt o i j q → p ≤ q
  pub unseparated : AreSeparated o i j → ⊥
  pub before : (a b : ℕ) → a ≤ b → PairBefore a b i j → Conflicts o a b → AreSeparated o a b
