use Rattle.std.proofs.Common.{◌≡◌, ◌*◌, ◌≤◌}
use Rattle.page_core.specs.PartPins.{room_in}
use Rattle.queue_core.proofs.open_call.room_for.Given as goal

abbrev pub invariant-loop-part : goal.invariant-loop-part
invariant-loop-part l = (l.room ≡ room_in l.parts 0 l.part) × (l.room ≤ 8 * l.part)
