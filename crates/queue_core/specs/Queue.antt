-- The calls that wait, counted by operation.
use Rattle.std.specs.Prelude.{◌≤◌, ℕ, List, length, ◌==◌, slice_index, vec_capacity}
use Rattle.std.specs.List.{filter}
use Rattle.page_core.specs.ObjectCalls.{WaitingCall}
use Rattle.queue_core.specs.declared.queue.WaitingQueue.TheInside.{Inside}

-- at most so many calls wait
abbrev pub most_waiting : ℕ
most_waiting = 256

-- how many of these calls are of this operation
abbrev pub count_of : ℕ → List WaitingCall → ℕ
count_of op waiting = length (filter (λ (w : WaitingCall). w.call.op == op) waiting)

-- no operation has more calls than its count, and one without a count has none
abbrev pub AreCounted : List WaitingCall → List ℕ → Type 0
AreCounted waiting counts = (op : ℕ) → count_of op waiting ≤ slice_index counts op

abbrev pub calls_of : Inside → List WaitingCall
calls_of q = q.rows.items

-- there is room for as many calls as may wait, and they are counted
pub record IsQueue (q : Inside) : Type 0 where
  pub few : length q.rows.items ≤ most_waiting
  pub room : most_waiting ≤ vec_capacity q.rows
  pub counted : AreCounted q.rows.items q.counts
