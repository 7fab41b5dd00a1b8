use Rattle.std.proofs.Common.{◌≡◌, ◌≤◌, map, take, length}
use Rattle.word_core.specs.Events.{Called}
use Rattle.live_core.specs.Scene.{told_of}
use Rattle.live_core.proofs.hosted.Hosted.told_of_waiting.Given as goal

abbrev pub invariant-loop-call : goal.invariant-loop-call
invariant-loop-call l = (l.call-index ≤ length l.call-items) × (l.call-items ≡ l.self.hall.waiting)
    × (l.all.items ≡ map (λ (c : Called). told_of l.self c.number) (take l.call-index l.call-items))
