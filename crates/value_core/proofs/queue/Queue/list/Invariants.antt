use Rattle.std.proofs.Common.{◌≡◌, take}
use Rattle.value_core.specs.Queue.{queue_data}
use Rattle.value_core.proofs.queue.Queue.list.Given as goal

abbrev pub invariant-loop-place : goal.invariant-loop-place
invariant-loop-place l = l.list.items ≡ take l.place (queue_data l.self)
