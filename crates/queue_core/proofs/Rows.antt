-- Room for the pins of the parts in a set.
use Rattle.std.proofs.Common.{◌≡◌, ℕ, zero, suc, ◌+◌, ◌≤◌, ◌==◌, if◌then◌else◌, ap, arith}
use Rattle.std.specs.Int.{bit_at}
use Rattle.page_core.specs.PartPins.{room_in}

-- the room of a part, if it is in the set
abbrev pub room_at : ℕ → ℕ → ℕ
room_at parts p = if bit_at parts p == 1 then 8 else 0

room_snoc : (parts p n q : ℕ) → q ≡ p + n → room_in parts p (suc n) ≡ room_in parts p n + room_at parts q
room_snoc parts p zero q is = omega (arith, ap (room_at parts) same)
  where
    same : p ≡ q
    same = omega (arith, is)
room_snoc parts p (suc n) q is = omega (arith, room_snoc parts (p + 1) n q (omega (arith, is)))

-- the room of one part more
pub room_next : (parts n : ℕ) → room_in parts 0 (suc n) ≡ room_in parts 0 n + room_at parts n
room_next parts n = room_snoc parts 0 n n (omega arith)

-- more parts have no less room
pub room_more : (parts p n m : ℕ) → n ≤ m → room_in parts p n ≤ room_in parts p m
room_more parts p zero m less = omega arith
room_more parts p (suc n) zero less = absurd (omega (arith, less))
room_more parts p (suc n) (suc m) less = omega (arith, room_more parts (p + 1) n m (omega (arith, less)))
