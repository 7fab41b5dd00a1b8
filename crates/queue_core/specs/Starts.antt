-- Which waiting calls can start.
use Rattle.std.specs.Prelude.{◌≡◌, ◌≢◌, ℕ, ◌<◌, Bool, true, List, take, slice_get, slice_index, Some}
use Rattle.path_tree.specs.Path.{Path}
use Rattle.path_tree.specs.Trace.{Event}
use Rattle.path_tree.specs.Satisfies.{MayStart}
use Rattle.page_core.specs.Lists.{Every}
use Rattle.page_core.specs.ObjectCalls.{WaitingCall}

-- an operation below n may start
abbrev pub OpCanStart : ℕ → List Path → List Event → ℕ → Type 0
OpCanStart n paths t op = (op < n) × MayStart paths op t

-- a waiting call is of one that may
abbrev pub CanStart : ℕ → List Path → List Event → WaitingCall → Type 0
CanStart n paths t w = OpCanStart n paths t w.call.op

-- the operations that are marked as refused may not start
abbrev pub AreRefused : ℕ → List Path → List Event → List Bool → Type 0
AreRefused n paths t refused = (op : ℕ) → slice_get refused op ≡ Some true → OpCanStart n paths t op → ⊥

-- no operation but this one has a count and may start
abbrev pub OthersRest : ℕ → List Path → List Event → List ℕ → ℕ → Type 0
OthersRest n paths t counts last = (op : ℕ) → slice_index counts op ≢ 0 → op ≢ last → OpCanStart n paths t op → ⊥

-- the call at this place is the first that can start
pub record IsFirst (n : ℕ) (paths : List Path) (t : List Event) (waiting : List WaitingCall) (k : ℕ) : Type 0 where
  pub call : WaitingCall
  pub there : slice_get waiting k ≡ Some call
  pub can : CanStart n paths t call
  pub earlier : Every (λ w. CanStart n paths t w → ⊥) (take k waiting)
