-- Which traces a path allows.
use Rattle.std.specs.Prelude.{ℕ, ◌≤◌, List, [], ◌∷◌}
use Rattle.path_tree.specs.Path.{Path, Paths, name, list, sequence, bound, burst, two, more}
use Rattle.path_tree.specs.Trace.{Event, Start}
use Rattle.path_tree.specs.Counts.{started, ended, active, first_started}

-- Each start of a member has used a finish of the member before it, and no bound is passed.
abbrev mutual
  pub Holds : Path → List Event → Type 0
  Holds (name op) t = Unit {0}
  Holds (list ms) t = EachHolds ms t
  Holds (sequence ms) t = EachHolds ms t × InTurn ms t
  Holds (bound n e) t = Holds e t × (active e t ≤ n)
  Holds (burst e) t = Holds e t

  pub EachHolds : Paths → List Event → Type 0
  EachHolds (two a b) t = Holds a t × Holds b t
  EachHolds (more a rest) t = Holds a t × EachHolds rest t

  pub InTurn : Paths → List Event → Type 0
  InTurn (two a b) t = started b t ≤ ended a t
  InTurn (more a rest) t = (first_started rest t ≤ ended a t) × InTurn rest t

-- at every moment of the trace
abbrev pub Satisfies : Path → List Event → Type 0
Satisfies e [] = Holds e []
Satisfies e (event ∷ past) = Holds e (event ∷ past) × Satisfies e past

-- the trace satisfies every path
abbrev pub SatisfiesAll : List Path → List Event → Type 0
SatisfiesAll [] t = Unit {0}
SatisfiesAll (p ∷ paths) t = Satisfies p t × SatisfiesAll paths t

-- the trace followed by a start of the operation satisfies every path
abbrev pub MayStart : List Path → ℕ → List Event → Type 0
MayStart paths op t = (number : ℕ) → SatisfiesAll paths (Start (record { number = number; operation = op }) ∷ t)
