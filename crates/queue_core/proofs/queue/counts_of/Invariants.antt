use Rattle.std.proofs.Common.{◌≡◌, take, length}
use Rattle.queue_core.specs.Queue.{AreCounted}
use Rattle.queue_core.proofs.queue.counts_of.Given as goal

abbrev pub invariant-loop-place : goal.invariant-loop-place
invariant-loop-place l = AreCounted (take l.place l.rows) l.counts × (length l.counts ≡ 32)
