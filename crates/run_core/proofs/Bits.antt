-- The parts of a set.
use Rattle.std.proofs.Common.{◌≡◌, ℕ, ◌^◌, ◌<◌, inl, inr, arith}
use Rattle.std.specs.Int.{bit_at}
use Rattle.std.proofs.lemmas.Bool.{cases_lt}
use Rattle.std.proofs.lemmas.Nat.Bits.{bit_at_above}

-- of 16 bits none stands higher
pub low_bit : (bits p : ℕ) → bits < 2 ^ 16 → bit_at bits p ≡ 1 → p < 16
low_bit bits p fits set = elim (cases_lt p 16) [
  | inl lt ↦ lt
  | inr ge ↦ absurd (omega (arith, set, bit_at_above bits 16 p fits ge))
]
