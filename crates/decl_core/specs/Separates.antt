-- Which nodes of a path keep two operations apart.
use Rattle.std.specs.Prelude.{◌≡◌, ℕ, zero, suc, ◌+◌, Bool, true, ◌⊎◌}
use Rattle.path_tree.specs.Path.{Path, Paths, name, list, sequence, bound, burst, two, more}
use Rattle.path_tree.specs.Names.{names, some_names}
use Rattle.path_tree.specs.Limits.{node_count}

-- The nodes of a tree are numbered from 0, each before those in it, members from the left: the node of this
-- number is this tree.
mutual
  pub data IsNodeAt : Path → ℕ → Path → Type 0 where
    itself : {e : Path} → IsNodeAt e zero e
    in_list : {ms : Paths} {k : ℕ} {node : Path} → IsNodeAmong ms k node → IsNodeAt (list ms) (suc k) node
    in_sequence : {ms : Paths} {k : ℕ} {node : Path} → IsNodeAmong ms k node → IsNodeAt (sequence ms) (suc k) node
    in_bound : {n : ℕ} {e : Path} {k : ℕ} {node : Path} → IsNodeAt e k node → IsNodeAt (bound n e) (suc k) node
    in_burst : {e : Path} {k : ℕ} {node : Path} → IsNodeAt e k node → IsNodeAt (burst e) (suc k) node

  -- the node of this number in some members is this tree, where the first node of the first member has number 0
  pub data IsNodeAmong : Paths → ℕ → Path → Type 0 where
    in_last_but_one : {a b : Path} {k : ℕ} {node : Path} → IsNodeAt a k node → IsNodeAmong (two a b) k node
    in_last : {a b : Path} {k : ℕ} {node : Path} → IsNodeAt b k node → IsNodeAmong (two a b) (node_count a + k) node
    in_first : {a : Path} {rest : Paths} {k : ℕ} {node : Path} → IsNodeAt a k node → IsNodeAmong (more a rest) k node
    in_rest : {a : Path} {rest : Paths} {k : ℕ} {node : Path} → IsNodeAmong rest k node →
        IsNodeAmong (more a rest) (node_count a + k) node

-- one of two operations is named here and the other one there
abbrev pub StandApart : (ℕ → Bool) → (ℕ → Bool) → ℕ → ℕ → Type 0
StandApart here there a b = ((here a ≡ true) × (there b ≡ true)) ⊎ ((here b ≡ true) × (there a ≡ true))

-- From this node down to the smallest node that holds both names no node is a burst. The smallest node for an operation
-- and itself is its name.
abbrev mutual
  pub MeetOpenly : Path → ℕ → ℕ → Type 0
  MeetOpenly (name op) a b = (a ≡ op) × (b ≡ op)
  MeetOpenly (list ms) a b = SomeMeetOpenly ms a b
  MeetOpenly (sequence ms) a b = SomeMeetOpenly ms a b
  MeetOpenly (bound n e) a b = MeetOpenly e a b
  MeetOpenly (burst e) a b = ⊥

  -- one of these members holds both names and they meet openly there, or they stand in two members
  pub SomeMeetOpenly : Paths → ℕ → ℕ → Type 0
  SomeMeetOpenly (two e f) a b = MeetOpenly e a b ⊎ (MeetOpenly f a b ⊎ StandApart (names e) (names f) a b)
  SomeMeetOpenly (more e rest) a b =
      MeetOpenly e a b ⊎ (SomeMeetOpenly rest a b ⊎ StandApart (names e) (some_names rest) a b)

-- Node k of a path separates two operations: it is a bound of 1, both names stand in it, and no node strictly below it,
-- down to the smallest node that holds both, is a burst.
abbrev pub Separates : Path → ℕ → ℕ → ℕ → Type 0
Separates e k a b = (content : Path) × IsNodeAt e k (bound 1 content) × MeetOpenly content a b

-- some node of a path separates them
abbrev pub IsSeparated : Path → ℕ → ℕ → Type 0
IsSeparated e a b = (k : ℕ) × Separates e k a b
