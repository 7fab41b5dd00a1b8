-- Seats that are parked, and others.
use Rattle.std.proofs.Common.{◌≡◌, ℕ, ◌+◌, List, [], ◌∷◌, ◌++◌, refl, sym, ◌∙◌, ap, arith}
use Rattle.office_core.specs.declared.client_seat.Seat.{Seat}
use Rattle.office_core.specs.ClientSeats.{times}

-- seats are counted one list after the other
pub times_append : (session : ℕ) (xs ys : List Seat) → times session (xs ++ ys) ≡ times session xs + times session ys
times_append session [] ys = omega arith
times_append session (x ∷ xs) ys = omega (arith, times_append session xs ys)
