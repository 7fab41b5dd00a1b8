-- At which nodes a path refuses a start of an operation after a trace, and what it lacks there.
use Rattle.std.specs.Prelude.{◌≡◌, ℕ, ◌+◌, List, [], ◌∷◌, ◌⊎◌}
use Rattle.path_tree.specs.Path.{Path, Paths, name, list, sequence, bound, burst, two, more}
use Rattle.path_tree.specs.Limits.{node_count}
use Rattle.path_tree.specs.Trace.{Event, Start, IsTrace}
use Rattle.path_tree.specs.Counts.{started, ended, active}
use Rattle.path_tree.specs.Satisfies.{Satisfies}
use Rattle.path_count.specs.PathCalls.{called}
use Rattle.path_count.specs.Needs.{WouldBegin, GoesOnWithout}
use Rattle.stuck_core.specs.Nodes.{enders}
use Rattle.stuck_core.specs.Waits.{is_among}
use Rattle.stuck_core.specs.declared.reason.Lack.{Lack}
use Rattle.stuck_core.specs.declared.reason.Lack.TheVariants as lacks

-- a path and a node of it, what is lacking there, and the operations whose finish is needed
pub record Why : Type 0 where
  pub path : ℕ
  pub node : ℕ
  pub lack : Lack
  pub needs : List ℕ

-- it is of the node of this number, where an end of this tree is needed
abbrev pub IsOf : Why → ℕ → Lack → Path → Type 0
IsOf why k lack e = (why.node ≡ k) × (why.lack ≡ lack) × (why.needs ≡ enders e)

-- As many activations of what is bounded are open as may be, and a start of the operation would begin one more.
abbrev pub IsFull : ℕ → Path → ℕ → ℕ → List Event → Type 0
IsFull n e number op t = (active e t ≡ n) × WouldBegin number op e t

-- Each finish of a member is used up, and a start of the operation would begin the next member.
abbrev pub HasNoFinish : Path → Path → ℕ → ℕ → List Event → Type 0
HasNoFinish a b number op t = (ended a t ≡ started b t) × WouldBegin number op b t

abbrev pub first_of : Paths → Path
first_of (two a b) = a
first_of (more a rest) = a

-- A node of a tree lacks this. Nodes are counted from a number on, each before those in it.
abbrev mutual
  pub Lacks : Path → ℕ → Why → ℕ → ℕ → List Event → Type 0
  Lacks (name o) k why number op t = ⊥
  Lacks (list ms) k why number op t = EachLacks ms (k + 1) why number op t
  Lacks (sequence ms) k why number op t = TurnLacks ms k 1 why number op t ⊎ EachLacks ms (k + 1) why number op t
  Lacks (bound n e) k why number op t =
      (IsOf why k lacks.Full e × IsFull n e number op t) ⊎ Lacks e (k + 1) why number op t
  Lacks (burst e) k why number op t = Lacks e (k + 1) why number op t

  pub EachLacks : Paths → ℕ → Why → ℕ → ℕ → List Event → Type 0
  EachLacks (two a b) k why number op t = Lacks a k why number op t ⊎ Lacks b (k + node_count a) why number op t
  EachLacks (more a rest) k why number op t =
      Lacks a k why number op t ⊎ EachLacks rest (k + node_count a) why number op t

  -- at a semicolon of this number, or a later one, of the sequence of number k
  pub TurnLacks : Paths → ℕ → ℕ → Why → ℕ → ℕ → List Event → Type 0
  TurnLacks (two a b) k j why number op t = IsOf why k (lacks.Turn j) a × HasNoFinish a b number op t
  TurnLacks (more a rest) k j why number op t =
      (IsOf why k (lacks.Turn j) a × HasNoFinish a (first_of rest) number op t)
      ⊎ TurnLacks rest k (j + 1) why number op t

-- a node of one of these paths lacks this; paths are counted from a number on
abbrev pub SomeLacks : List Path → ℕ → Why → ℕ → ℕ → List Event → Type 0
SomeLacks [] i why number op t = ⊥
SomeLacks (p ∷ paths) i why number op t =
    ((why.path ≡ i) × Lacks p 0 why number op t) ⊎ SomeLacks paths (i + 1) why number op t

-- the path refuses the start until one of these operations has finished
abbrev pub WaitsFor : List ℕ → Path → ℕ → ℕ → List Event → Type 0
WaitsFor needs p number op t = (u : List Event) → GoesOnWithout (is_among needs) t u → IsTrace u → Satisfies p u →
    Satisfies p (Start (called number op) ∷ u) → ⊥
