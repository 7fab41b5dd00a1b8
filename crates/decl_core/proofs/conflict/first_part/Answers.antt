use Rattle.std.proofs.Common.{arith, w16}
use Rattle.std.proofs.lemmas.Nat.Bits.{bit_at-trailing_zeros}
use Rattle.decl_core.proofs.Contested.{not_after}
use Rattle.decl_core.proofs.conflict.first_part.Goals as goal

pub returns : goal.returns
returns c =
    let lowest = bit_at-trailing_zeros w16 c.args.parts (omega arith) c.ranges.parts.fits in
    (lowest.1, λ q set. not_after c.args.parts _ q lowest.2 set)
