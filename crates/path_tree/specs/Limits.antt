-- What every path that was read keeps, beside the grammar.
use Rattle.std.specs.Prelude.{ℕ, ◌+◌, ◌≤◌, max}
use Rattle.path_tree.specs.Path.{Path, Paths, name, list, sequence, bound, burst, two, more}
use Rattle.path_tree.specs.Names.{NamesOnce}

-- how many nodes a path has; a group is none
abbrev mutual
  pub node_count : Path → ℕ
  node_count (name op) = 1
  node_count (list ms) = 1 + count_of_all ms
  node_count (sequence ms) = 1 + count_of_all ms
  node_count (bound n e) = 1 + node_count e
  node_count (burst e) = 1 + node_count e

  pub count_of_all : Paths → ℕ
  count_of_all (two a b) = node_count a + node_count b
  count_of_all (more a rest) = node_count a + count_of_all rest

-- each bound is within 1 to 65535
abbrev mutual
  pub BoundsFit : Path → Type 0
  BoundsFit (name op) = Unit {0}
  BoundsFit (list ms) = AllBoundsFit ms
  BoundsFit (sequence ms) = AllBoundsFit ms
  BoundsFit (bound n e) = (1 ≤ n) × (n ≤ 65535) × BoundsFit e
  BoundsFit (burst e) = BoundsFit e

  pub AllBoundsFit : Paths → Type 0
  AllBoundsFit (two a b) = BoundsFit a × BoundsFit b
  AllBoundsFit (more a rest) = BoundsFit a × AllBoundsFit rest

-- how many bounds, bursts and needed groups stand in one another, in a path that stands alone or in a bound or burst
abbrev mutual
  pub levels : Path → ℕ
  levels (name op) = 0
  levels (list ms) = list_levels ms
  levels (sequence ms) = sequence_levels ms
  levels (bound n e) = 1 + levels e
  levels (burst e) = 1 + levels e

  -- in a member of a list: a list is in a group of its own
  pub levels_in_list : Path → ℕ
  levels_in_list (name op) = 0
  levels_in_list (list ms) = 1 + list_levels ms
  levels_in_list (sequence ms) = sequence_levels ms
  levels_in_list (bound n e) = 1 + levels e
  levels_in_list (burst e) = 1 + levels e

  -- in a member of a sequence: a list or a sequence is in a group of its own
  pub levels_in_sequence : Path → ℕ
  levels_in_sequence (name op) = 0
  levels_in_sequence (list ms) = 1 + list_levels ms
  levels_in_sequence (sequence ms) = 1 + sequence_levels ms
  levels_in_sequence (bound n e) = 1 + levels e
  levels_in_sequence (burst e) = 1 + levels e

  pub list_levels : Paths → ℕ
  list_levels (two a b) = max (levels_in_list a) (levels_in_list b)
  list_levels (more a rest) = max (levels_in_list a) (list_levels rest)

  pub sequence_levels : Paths → ℕ
  sequence_levels (two a b) = max (levels_in_sequence a) (levels_in_sequence b)
  sequence_levels (more a rest) = max (levels_in_sequence a) (sequence_levels rest)

-- each name stands once, there are at most 256 nodes, bounds fit, and at most 32 levels are needed
pub record IsPathTree (e : Path) : Type 0 where
  pub once : NamesOnce e
  pub few : node_count e ≤ 256
  pub bounds : BoundsFit e
  pub shallow : levels e ≤ 32
