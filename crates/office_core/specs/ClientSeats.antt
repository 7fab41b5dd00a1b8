-- Seats, and when they are those of all sessions.
use Rattle.std.specs.Prelude.{◌≡◌, ℕ, ◌+◌, ◌<◌, ◌≤◌, ◌==◌, List, [], ◌∷◌, length, sum_by, if◌then◌else◌}
use Rattle.office_core.specs.declared.client_seat.Seat.{Seat}

-- a seat of this session that has seen no place and had no receipt
pub record IsFresh (session : ℕ) (seat : Seat) : Type 0 where
  pub of : seat.session ≡ session
  pub seen : seat.seen ≡ 0
  pub count : seat.count ≡ 0

-- a seat has seen this place, and counts one receipt more
pub record Advances (old : Seat) (place : ℕ) (new : Seat) : Type 0 where
  pub session : new.session ≡ old.session
  pub seen : new.seen ≡ place
  pub count : new.count ≡ old.count + 1

-- how many receipts a seat had
abbrev pub count_of : Seat → ℕ
count_of seat = seat.count

-- how many seats are of a session
abbrev pub times : ℕ → List Seat → ℕ
times session [] = 0
times session (seat ∷ seats) = (if seat.session == session then 1 else 0) + times session seats

-- the seats are those of the sessions given out, each once, and their counts add up to so many entries
pub record AreSeats (given : ℕ) (entries : ℕ) (seats : List Seat) : Type 0 where
  pub all : length seats ≡ given
  pub each : (session : ℕ) → 0 < session → session ≤ given → times session seats ≡ 1
  pub counts : sum_by count_of seats ≡ entries
