use Rattle.std.proofs.Common.{◌≡◌, ◌+◌, ◌++◌, length}
use Rattle.decl_core.specs.ObjectMap.{object_of}
use Rattle.live_core.specs.Text.{carried_text}
use Rattle.live_core.specs.Fronts.{carried_from}
use Rattle.live_core.proofs.hosted.Hosted.push_calls.Given as goal

abbrev pub invariant-calls : goal.invariant-calls
invariant-calls l = (l.out.items ++ carried_text (object_of l.self.hall.object) (carried_from l.self l.number l.rest)
    ≡ l.initial.out.items ++ carried_text (object_of l.self.hall.object) (carried_from l.self 0 l.calls))
    × (l.number + length l.rest ≡ length l.calls)

abbrev pub decreases-calls : goal.decreases-calls
decreases-calls l = length l.rest
