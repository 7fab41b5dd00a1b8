use Rattle.std.proofs.Common.{arith}
use Rattle.path_count.proofs.laws.stands_for_satisfying.Goals as goal

pub returns : goal.returns
returns c = λ state n paths t h. (h.trace, h.satisfied, omega (arith, h.taken, h.few))
