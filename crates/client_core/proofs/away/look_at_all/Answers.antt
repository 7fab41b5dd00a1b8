use Rattle.std.proofs.Common.{[], arith, refl}
use Rattle.client_core.specs.Holding.{LooksAt}
use Rattle.client_core.proofs.Rows.{next_moved, all_moved}
use Rattle.client_core.proofs.away.look_at_all.Goals as goal

pub loop-place-init : goal.loop-place-init
loop-place-init c = record { done = []; each = refl; rest = refl }

pub loop-place-preserved : goal.loop-place-preserved
loop-place-preserved c =
    next_moved (LooksAt c.args.hosted.now c.args.second) c.loop-place.place c.args.rows.now.items c.loop-place.rows.items c.index.result.now c.look_at.result
    (omega (arith, c.loop-place-test.true, c.len-place-end.ensures)) c.loop-place.invariant c.index.ensures c.look_at.ensures

pub returns : goal.returns
returns c = all_moved (LooksAt c.args.hosted.now c.args.second) c.loop-place.place c.args.rows.now.items c.loop-place.rows.items (omega (arith, c.loop-place-test.false, c.len-place-end.ensures)) c.loop-place.invariant
