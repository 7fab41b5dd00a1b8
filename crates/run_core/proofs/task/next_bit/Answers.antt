use Rattle.std.proofs.Common.{inl, inr, arith}
use Rattle.std.proofs.lemmas.Bool.{cases_lt}
use Rattle.std.proofs.lemmas.Nat.Bits.{bit_at_above}
use Rattle.run_core.proofs.task.next_bit.Goals as goal

pub returns-clause-none : goal.returns-clause-none
returns-clause-none c = λ q from set. elim (cases_lt q c.loop-part.part) [
  | inl lt ↦ c.loop-part.invariant.none q from lt set
  | inr ge ↦ absurd (omega (arith, bit_at_above c.args.bits 16 q (omega (arith, c.ranges.bits.fits)) (omega arith)))
]
