use Rattle.std.proofs.Common.{◌≡◌, ◌+◌, length}
use Rattle.known_core.specs.Log.{taken_back}
use Rattle.known_core.proofs.log.undo_all.Given as goal

abbrev pub invariant-loop : goal.invariant-loop
invariant-loop l =
    (taken_back l.log.items l.parts.items ≡ taken_back l.fn.log.items l.fn.parts.items) × (length l.log.items + l.counter ≡ l.end)
