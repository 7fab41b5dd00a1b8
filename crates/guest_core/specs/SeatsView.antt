-- The numbers of sessions, as they lie in memory.
use Rattle.std.specs.Prelude.{◌≢◌, ℕ, ◌<◌, ◌≤◌, length, slice_get, Some}
use Rattle.guest_core.specs.declared.seats.SeatHolder.TheVariants.{Free}
use Rattle.guest_core.specs.declared.seats.Seats.TheInside.{Inside}

-- no number below this one is free, and there are at most 65,536
pub record AreSeats (s : Inside) : Type 0 where
  pub low : (k : ℕ) → k < s.low → slice_get s.rows.items k ≢ Some Free
  pub few : length s.rows.items ≤ 65536
