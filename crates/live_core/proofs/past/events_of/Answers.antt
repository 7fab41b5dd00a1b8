use Rattle.std.proofs.Common.{◌<◌, length, arith, get_or, refl}
use Rattle.live_core.specs.declared.past.PastRun.TheVariants.{Calls}
use Rattle.live_core.proofs.Adding.{events_more}
use Rattle.live_core.proofs.past.events_of.Goals as goal

pub loop-run-preserved : goal.loop-run-preserved
loop-run-preserved c =
    let inside : c.loop-run.run-index < length c.args.runs.now = omega arith in
    events_more c.loop-run.out.items c.push_run.new.out.items c.args.runs.now c.loop-run.run-index (Calls 0 0) (get_or c.args.runs.now c.loop-run.run-index (Calls 0 0)) inside refl c.loop-run.invariant c.in_ok-push_run.ensures
