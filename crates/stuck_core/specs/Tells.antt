-- What is told of an operation that waits.
use Rattle.std.specs.Prelude.{◌≡◌, ℕ, ◌+◌, ◌<◌, ◌≤◌, ◌↔◌, List, [], ◌∷◌, ◌⊎◌, length, slice_get, Some}
use Rattle.path_tree.specs.Path.{Path}
use Rattle.path_tree.specs.Trace.{Event, Start, IsTrace}
use Rattle.path_tree.specs.Satisfies.{Satisfies, SatisfiesAll}
use Rattle.path_count.specs.Object.{KeptAll, AllOnce, all_slots}
use Rattle.path_count.specs.PathCalls.{called}
use Rattle.stuck_core.specs.Lacks.{Why, SomeLacks, WaitsFor}

-- counters that hold these words have counted a trace that the paths allow
pub record IsCounted (paths : List Path) (words : List ℕ) (t : List Event) : Type 0 where
  pub trace : IsTrace t
  pub satisfied : SatisfiesAll paths t
  pub once : AllOnce paths
  pub kept : KeptAll paths 0 words t
  pub fits : all_slots paths ≤ length words

-- it is one of these
abbrev pub IsOneOf : Why → List Why → Type 0
IsOneOf why [] = ⊥
IsOneOf why (first ∷ all) = (why ≡ first) ⊎ IsOneOf why all

-- the path of this number, from 1, is named
abbrev pub IsPathOf : ℕ → List Why → Type 0
IsPathOf i [] = ⊥
IsPathOf i (first ∷ all) = (first.path ≡ i) ⊎ IsPathOf i all

-- a reason stands before these: by paths, and each node before those in it
abbrev pub IsBefore : Why → List Why → Type 0
IsBefore a [] = Unit {0}
IsBefore a (b ∷ all) = ((a.path < b.path) ⊎ ((a.path ≡ b.path) × (a.node < b.node))) × IsBefore a all

abbrev pub AreInOrder : List Why → Type 0
AreInOrder [] = Unit {0}
AreInOrder (first ∷ all) = IsBefore first all × AreInOrder all

-- After a trace: exactly the nodes that lack something are told, in their order; exactly the paths that refuse a start
-- now are named; and each refuses it until one of the operations named with it has finished.
pub record Tells (paths : List Path) (op : ℕ) (t : List Event) (all : List Why) : Type 0 where
  pub nodes : (number : ℕ) (why : Why) → IsOneOf why all ↔ SomeLacks paths 1 why number op t
  pub order : AreInOrder all
  pub named : (number i : ℕ) (p : Path) → slice_get paths i ≡ Some p →
      (IsPathOf (1 + i) all ↔ (Satisfies p (Start (called number op) ∷ t) → ⊥))
  pub needs : (number i : ℕ) (why : Why) (p : Path) → IsOneOf why all → why.path ≡ 1 + i → slice_get paths i ≡ Some p →
      WaitsFor why.needs p number op t
