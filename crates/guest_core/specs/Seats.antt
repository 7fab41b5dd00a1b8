-- The numbers of sessions.
use Rattle.std.specs.Prelude.{◌≡◌, ◌≢◌, ℕ, ◌<◌, List, ◌∷◌, replicate, slice_get, Some}
use Rattle.guest_core.specs.declared.seats.SeatHolder.{SeatHolder}
use Rattle.guest_core.specs.declared.seats.SeatHolder.TheVariants.{Void, Free, Nameless, Named, Retired}

-- all numbers up to the most are free; 0 is no number of a session
abbrev pub free_seats : ℕ → List SeatHolder
free_seats most = Void ∷ replicate most Free

-- the least number that is free
pub record IsLeastFree (seats : List SeatHolder) (session : ℕ) : Type 0 where
  pub free : slice_get seats session ≡ Some Free
  pub least : (s : ℕ) → s < session → slice_get seats s ≢ Some Free

-- no number is free
abbrev pub NoneIsFree : List SeatHolder → Type 0
NoneIsFree seats = (s : ℕ) → slice_get seats s ≢ Some Free

-- in the next epoch the numbers of forgotten names are free
abbrev pub renewed : SeatHolder → SeatHolder
renewed Void = Void
renewed Free = Free
renewed Nameless = Nameless
renewed (Named place) = Named place
renewed Retired = Free
