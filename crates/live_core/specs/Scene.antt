-- An object with its clients.
use Rattle.std.specs.Prelude.{ℕ, ◌+◌, ◌-◌, ◌^◌, ◌&&◌, Bool, List, length, min, nat_lt, not, slice_index_or}
use Rattle.path_count.specs.declared.past.PastEvent.{PastEvent}
use Rattle.guest_core.specs.Guests.{Guests}
use Rattle.live_core.specs.Hall.{Hall}

-- What its hand holds, who its clients are, the past with which this epoch began, the numbers that were told of the calls
-- that were carried into it, in their order, what is added to the number of another call where it is told, the greatest
-- number that was given in this epoch, which epoch it is, and the number that its declaration gives.
pub record Scene : Type 0 where
  pub hall : Hall
  pub guests : Guests
  pub past : List PastEvent
  pub carried : List ℕ
  pub base : ℕ
  pub given : ℕ
  pub epoch : ℕ
  pub source : ℕ

-- the number that is told of the call of this number in this epoch; at most the greatest of 64 bits
abbrev pub told_of : Scene → ℕ → ℕ
told_of s number = slice_index_or s.carried (number - 1) (min (s.base + number) (2 ^ 64 - 1))

-- this number may have been told of a call: 0 was not, nor one above the greatest that was given
abbrev pub is_given : Scene → ℕ → Bool
is_given s told = nat_lt 0 told && not (nat_lt (min (s.base + s.given) (2 ^ 64 - 1)) told)

-- the same object, and its clients are these
abbrev pub with_guests : Scene → Guests → Scene
with_guests s guests = record s { guests = guests }

-- which epoch comes next, and what is added to numbers in it: the first number that is given there is told as the next one
abbrev pub next_epoch : Scene → ℕ
next_epoch s = min (s.epoch + 1) (2 ^ 64 - 1)

abbrev pub next_base : Scene → ℕ
next_base s = min (s.base + s.given) (2 ^ 64 - 1) - length s.hall.waiting
