-- Whose end alone can let a start go that a node refuses.
use Rattle.std.specs.Prelude.{◌≡◌, ℕ, suc, ◌==◌, ◌||◌, Bool, false, List, ◌∷◌}
use Rattle.path_tree.specs.Path.{Path, Paths, name, list, sequence, bound, burst, two, more}
use Rattle.path_tree.specs.Names.{NamesOnce}
use Rattle.path_tree.specs.Trace.{Call, Event, Start, End, IsTrace}
use Rattle.path_tree.specs.Counts.{started, ended, active}
use Rattle.path_tree.specs.Satisfies.{Satisfies}
use Rattle.path_count.specs.PathCalls.{called}

-- the end of a call of the operation may be the end of an activation of the node
abbrev mutual
  pub ends_by : Path → ℕ → Bool
  ends_by (name o) op = op == o
  ends_by (list ms) op = some_ends_by ms op
  ends_by (sequence ms) op = last_ends_by ms op
  ends_by (bound n e) op = ends_by e op
  ends_by (burst e) op = ends_by e op

  pub some_ends_by : Paths → ℕ → Bool
  some_ends_by (two a b) op = ends_by a op || ends_by b op
  some_ends_by (more a rest) op = ends_by a op || some_ends_by rest op

  pub last_ends_by : Paths → ℕ → Bool
  last_ends_by (two a b) op = ends_by b op
  last_ends_by (more a rest) op = last_ends_by rest op

-- a trace goes on from another one without an end of certain operations
pub data GoesOnWithout (ending : ℕ → Bool) (t : List Event) : List Event → Type 0 where
  same : GoesOnWithout ending t t
  start : {u : List Event} (call : Call) → GoesOnWithout ending t u → GoesOnWithout ending t (Start call ∷ u)
  end : {u : List Event} (call : Call) → ending call.operation ≡ false → GoesOnWithout ending t u →
      GoesOnWithout ending t (End call ∷ u)

-- a start of the operation would begin an activation of the node
abbrev pub WouldBegin : ℕ → ℕ → Path → List Event → Type 0
WouldBegin number op e t = started e (Start (called number op) ∷ t) ≡ suc (started e t)

-- Where a bound is full, and a start would begin one activation more: before an end of an operation that ends one of
-- its activations it lets no such start.
abbrev pub FullNeedsEnd : Type 0
FullNeedsEnd = (n : ℕ) (e : Path) (number op : ℕ) (t u : List Event) → NamesOnce e → active e t ≡ n →
    WouldBegin number op e t → GoesOnWithout (ends_by e) t u → IsTrace u →
    Satisfies (bound n e) u → Satisfies (bound n e) (Start (called number op) ∷ u) → ⊥

-- Where each finish of a member is used up, and a start would begin the next member: before an end of an operation that
-- ends the member before it the sequence lets no such start.
abbrev pub TurnNeedsEnd : Type 0
TurnNeedsEnd = (a b : Path) (number op : ℕ) (t u : List Event) → NamesOnce b → ended a t ≡ started b t →
    WouldBegin number op b t → GoesOnWithout (ends_by a) t u → IsTrace u →
    Satisfies (sequence (two a b)) u → Satisfies (sequence (two a b)) (Start (called number op) ∷ u) → ⊥
