use Rattle.std.proofs.Common.{◌≤◌, take}
use Rattle.client_core.specs.HeldRows.{timed_from}
use Rattle.client_core.specs.ToldInside.{held_in}
use Rattle.inside_core.specs.Adds.{AddsHeld}
use Rattle.inside_core.proofs.held.push_held.Given as goal

abbrev pub invariant-loop-place : goal.invariant-loop-place
invariant-loop-place l =
    AddsHeld l.whom.second l.object l.holding (held_in l.whom.from l.last (timed_from 0 l.holding.since (take l.place l.holding.held))) l.lines l.initial.out.items l.out.items
    × (l.lines ≤ 256)
