use Rattle.std.proofs.Common.{take}
use Rattle.inside_core.specs.Adds.{crowd_of, AddsSeats}
use Rattle.inside_core.proofs.who.push_seats.Given as goal

abbrev pub invariant-loop-place : goal.invariant-loop-place
invariant-loop-place l = AddsSeats (crowd_of l.clients l.whom) (take l.place l.seats) l.initial.out.items l.out.items
