use Rattle.std.proofs.Common.{◌∙◌, arith}
use Rattle.client_core.specs.GoneClients.{ended_for}
use Rattle.client_core.proofs.Rows.{next_mapped, all_mapped}
use Rattle.client_core.proofs.holder.end_one.Goals as goal

pub loop-place-preserved : goal.loop-place-preserved
loop-place-preserved c =
    next_mapped (ended_for c.args.session c.args.second c.args.reply.now) c.loop-place.place c.args.rows.now.items c.loop-place.rows.items c.index.result.now c.ended_row.result
    (omega (arith, c.loop-place-test.true, c.len-place-end.ensures)) c.loop-place.invariant c.index.ensures c.ended_row.ensures

pub returns : goal.returns
returns c = c.loop-place.invariant ∙ all_mapped (ended_for c.args.session c.args.second c.args.reply.now) c.loop-place.place c.args.rows.now.items (omega (arith, c.loop-place-test.false, c.len-place-end.ensures))
