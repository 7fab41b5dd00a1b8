-- Which operations a path names.
use Rattle.std.specs.Prelude.{◌≡◌, ℕ, ◌<◌, ◌==◌, ◌||◌, Bool, true, false}
use Rattle.path_tree.specs.Path.{Path, Paths, name, list, sequence, bound, burst, two, more}

-- a node names an operation
abbrev mutual
  pub names : Path → ℕ → Bool
  names (name o) op = op == o
  names (list ms) op = some_names ms op
  names (sequence ms) op = some_names ms op
  names (bound n e) op = names e op
  names (burst e) op = names e op

  pub some_names : Paths → ℕ → Bool
  some_names (two a b) op = names a op || names b op
  some_names (more a rest) op = names a op || some_names rest op

-- no operation stands in two members of a node
abbrev mutual
  pub NamesOnce : Path → Type 0
  NamesOnce (name o) = Unit {0}
  NamesOnce (list ms) = EachOnce ms
  NamesOnce (sequence ms) = EachOnce ms
  NamesOnce (bound n e) = NamesOnce e
  NamesOnce (burst e) = NamesOnce e

  pub EachOnce : Paths → Type 0
  EachOnce (two a b) = NamesOnce a × NamesOnce b × ((op : ℕ) → names a op ≡ true → names b op ≡ false)
  EachOnce (more a rest) = NamesOnce a × EachOnce rest × ((op : ℕ) → names a op ≡ true → some_names rest op ≡ false)

-- each operation that a path names has a number below this one
abbrev mutual
  pub NamesBelow : Path → ℕ → Type 0
  NamesBelow (name op) n = op < n
  NamesBelow (list ms) n = AllBelow ms n
  NamesBelow (sequence ms) n = AllBelow ms n
  NamesBelow (bound _ e) n = NamesBelow e n
  NamesBelow (burst e) n = NamesBelow e n

  pub AllBelow : Paths → ℕ → Type 0
  AllBelow (two a b) n = NamesBelow a n × NamesBelow b n
  AllBelow (more a rest) n = NamesBelow a n × AllBelow rest n
