use Rattle.std.proofs.Common.{ℕ, ◌<◌, List}
use Rattle.live_core.specs.Scene.{Scene}
use Rattle.client_core.specs.Asked.{Waits}
use Rattle.client_core.specs.Custody.{Custodies}
use Rattle.table_core.specs.Seen.{state_of}
use Rattle.table_core.proofs.peers.find_waiter.Given as goal

abbrev pub invariant-loop-place : goal.invariant-loop-place
invariant-loop-place l = (k : ℕ) → k < l.place → (custody : Custodies) (objects : List Scene) → Waits l.call.at l.call.session l.call.told (state_of custody objects l.clients) k → ⊥
