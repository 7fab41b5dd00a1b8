use Rattle.std.proofs.Common.{take}
use Rattle.client_core.specs.ToldInside.{waiting_in}
use Rattle.inside_core.specs.Adds.{crowd_of, AddsWaits, AreKnown}
use Rattle.inside_core.proofs.who.push_calls.Given as goal

abbrev pub invariant-loop-place : goal.invariant-loop-place
invariant-loop-place l =
    AddsWaits (crowd_of l.clients l.whom) l.seats l.object (waiting_in l.whom.from l.last (take l.place l.object.hall.waiting)) l.lines l.initial.out.items l.out.items
    × AreKnown l.object l.known.items
