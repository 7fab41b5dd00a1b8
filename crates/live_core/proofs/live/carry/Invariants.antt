use Rattle.std.proofs.Common.{◌≡◌, ◌+◌, ◌++◌, length}
use Rattle.live_core.specs.Hall.{Told, IsKept}
use Rattle.live_core.specs.Answers.{carried_from}
use Rattle.live_core.specs.Steps.{IsFixed}
use Rattle.live_core.proofs.live.carry.Given as goal

abbrev pub decreases-loop-carried : goal.decreases-loop-carried
decreases-loop-carried l = length l.carried.items

abbrev pub invariant-loop-carried : goal.invariant-loop-carried
invariant-loop-carried l =
    ((t : Told) → IsKept l.fn.hall t → IsKept l.hall t) × IsFixed l.fn.hall l.hall
    × (l.hall.given + length l.carried.items ≡ l.fn.hall.given + length l.fn.carried.items)
    × (l.hall.waiting ++ carried_from l.hall.given l.carried.items ≡ l.fn.hall.waiting ++ carried_from l.fn.hall.given l.fn.carried.items)
