use Rattle.std.proofs.Common.{◌≢◌, ◌≤◌, take, length}
use Rattle.word_core.specs.Events.{Called}
use Rattle.live_core.specs.Hall.{Every}
use Rattle.live_core.specs.Scene.{told_of}
use Rattle.inside_core.proofs.why.waiting_as.Given as goal

abbrev pub invariant-loop-place : goal.invariant-loop-place
invariant-loop-place l = (l.place ≤ length l.waiting) × Every (λ (c : Called). told_of l.object c.number ≢ l.told) (take l.place l.waiting)
