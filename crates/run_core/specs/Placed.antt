-- Bytes that are read into a place.
use Rattle.std.specs.Prelude.{◌≡◌, ℕ, ◌+◌, List, length, take, drop}

-- of these bytes at most so many are others afterwards, from this place on
pub record IsPlaced (at count : ℕ) (before after : List ℕ) : Type 0 where
  pub long : length after ≡ length before
  pub front : take at after ≡ take at before
  pub behind : drop (at + count) after ≡ drop (at + count) before
