use Rattle.std.proofs.Common.{arith, w16}
use Rattle.std.proofs.lemmas.Nat.Bits.{bit_at-trailing_zeros}
use Rattle.run_core.proofs.judge.decode_all.Goals as goal

pub returns-clause-none : goal.returns-clause-none
returns-clause-none c none =
    let lowest = bit_at-trailing_zeros w16 c.reads-reads.result (omega (arith, c.if-reads-eq0.false)) c.reads-reads.type_inv in
    absurd (none _ ((c.reads-reads.ensures.named _).0 lowest.1))
