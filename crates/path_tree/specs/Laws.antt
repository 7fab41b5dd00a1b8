-- Laws of the counts.
use Rattle.std.specs.Prelude.{◌≡◌, ℕ, ◌+◌, ◌≤◌, nat_lt, if◌then◌else◌, List, ◌∷◌}
use Rattle.path_tree.specs.Path.{Path, Paths, name, list, sequence, bound, burst, two, more}
use Rattle.path_tree.specs.Trace.{Call, Event, End, IsTrace}
use Rattle.path_tree.specs.Counts.{started, ended, active}
use Rattle.path_tree.specs.Satisfies.{Satisfies}

-- the sum of what is open of the members
abbrev pub sum_active : Paths → List Event → ℕ
sum_active (two a b) t = active a t + active b t
sum_active (more a rest) t = active a t + sum_active rest t

-- at each node no more has finished than has begun, and the counts of the form are those of its parts
abbrev mutual
  pub Counted : Path → List Event → Type 0
  Counted (name op) t = ended (name op) t ≤ started (name op) t
  Counted (list ms) t =
      EachCounted ms t × (ended (list ms) t ≤ started (list ms) t) × (active (list ms) t ≡ sum_active ms t)
  Counted (sequence ms) t =
      EachCounted ms t × (ended (sequence ms) t ≤ started (sequence ms) t) × (sum_active ms t ≤ active (sequence ms) t)
  Counted (bound n e) t =
      Counted e t × (ended (bound n e) t ≤ started (bound n e) t) × (active (bound n e) t ≡ active e t)
      × (active e t ≤ n)
  Counted (burst e) t =
      Counted e t × (ended (burst e) t ≤ started (burst e) t)
      × (active (burst e) t ≡ (if nat_lt 0 (active e t) then 1 else 0))

  pub EachCounted : Paths → List Event → Type 0
  EachCounted (two a b) t = Counted a t × Counted b t
  EachCounted (more a rest) t = Counted a t × EachCounted rest t

-- the first law
abbrev pub ActivationsNest : Type 0
ActivationsNest = (e : Path) (t : List Event) → IsTrace t → Satisfies e t → Counted e t

-- an end of a running_calls call keeps what a path asks
abbrev pub FinishKeepsSatisfaction : Type 0
FinishKeepsSatisfaction = (e : Path) (t : List Event) (call : Call) → Satisfies e t → Satisfies e (End call ∷ t)
