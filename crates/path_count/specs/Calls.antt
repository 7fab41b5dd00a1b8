-- The answers to starts and finishes of operations.
use Rattle.std.specs.Prelude.{◌≡◌, ◌≢◌, ℕ, ◌<◌, ◌≤◌, List, [], ◌∷◌, codes}
use Rattle.path_tree.specs.Path.{Path}
use Rattle.path_tree.specs.Trace.{Call, Event, Start, End, IsFresh, IsAmong, running_calls, starts, ends}
use Rattle.path_tree.specs.Satisfies.{MayStart}
use Rattle.value_core.specs.Reply.{reply}
use Rattle.path_count.specs.Stands.{started_calls}

-- the answer to a start, and the trace after it; a call may have any number that no other has
pub data StartAnswer (paths : List Path) (t : List Event) (op : ℕ) (name : List ℕ) : List ℕ → List Event → Type 0 where
  spent : started_calls t ≡ 65536 → StartAnswer paths t op name (reply (codes "spent") []) t
  started : {call : Call} → started_calls t < 65536 → MayStart paths op t → call.operation ≡ op → IsFresh call.number t
      → StartAnswer paths t op name (reply (codes "started ") name) (Start call ∷ t)
  blocked : started_calls t ≢ 65536 → (MayStart paths op t → ⊥) →
      StartAnswer paths t op name (reply (codes "blocked ") name) t

-- the answer to a finish, and the trace after it; any running call of the operation may be the one that ends
pub data FinishAnswer (t : List Event) (op : ℕ) (name : List ℕ) : List ℕ → List Event → Type 0 where
  finished : {call : Call} → call.operation ≡ op → IsAmong call (running_calls t)
      → FinishAnswer t op name (reply (codes "finished ") name) (End call ∷ t)
  not_running : starts op t ≤ ends op t → FinishAnswer t op name (reply (codes "not running ") name) t
