use Rattle.std.proofs.Common.{◌≡◌, ◌++◌, take, drop, map}
use Rattle.guest_core.specs.Seats.{renewed}
use Rattle.guest_core.proofs.seats.Seats.renew.Given as goal

-- those before the place are renewed, the others are as they were
abbrev pub invariant-loop-place : goal.invariant-loop-place
invariant-loop-place l = l.self-inside.rows.items ≡ map renewed (take l.place l.initial.self-inside.rows.items) ++ drop l.place l.initial.self-inside.rows.items
