use Rattle.std.proofs.Common.{◌≡◌, ◌≤◌, ◌+◌, ◌∷◌, replicate, vec_capacity}
use Rattle.guest_core.specs.declared.seats.SeatHolder.TheVariants.{Void, Free}
use Rattle.guest_core.proofs.seats.Seats.new.Given as goal

abbrev pub invariant-loop : goal.invariant-loop
invariant-loop l = (l.counter ≤ l.most) × (l.rows.items ≡ Void ∷ replicate l.counter Free) × (l.most + 1 ≤ vec_capacity l.rows)
