use Rattle.std.proofs.Common.{refl, arith}
use Rattle.std.proofs.lemmas.Nat.Bits.{bit_at_above}
use Rattle.run_core.proofs.uncalled.+have_pins.Goals as goal

pub returns-then-from-ge-MOST_PARTS : goal.returns-then-from-ge-MOST_PARTS
returns-then-from-ge-MOST_PARTS t c = (
  λ yes q low set. absurd (omega (arith, set, bit_at_above c.args.parts 16 q (omega (arith, c.ranges.parts.fits)) (omega (arith, low, c.if-from-ge-MOST_PARTS.true)))),
  λ have. refl,
)
