use Rattle.std.proofs.Common.{arith}
use Rattle.guest_core.proofs.Seating.{next_renewed}
use Rattle.guest_core.proofs.seats.Seats.renew.Goals as goal

pub loop-place-preserved : goal.loop-place-preserved
loop-place-preserved c =
    next_renewed c.loop-place.place c.self.inside.rows.items c.loop-place.self-inside.rows.items c.index.result.now c.renew.result
    (omega (arith, c.loop-place-test.true, c.len-place-end.ensures)) c.loop-place.invariant c.index.ensures c.renew.ensures
