use Rattle.std.proofs.Common.{◌≡◌, ◌-◌}
use Rattle.guest_core.specs.SeatsView.{AreSeats}
use Rattle.guest_core.proofs.seats.Seats.least_free.Given as goal

abbrev pub invariant-loop-self : goal.invariant-loop-self
invariant-loop-self l = (l.self-inside.rows ≡ l.initial.self-inside.rows) × AreSeats l.self-inside

abbrev pub decreases-loop-self : goal.decreases-loop-self
decreases-loop-self l = l.self-inside.rows.len - l.self-inside.low
