use Rattle.std.proofs.Common.{◌<◌, length, arith, get_or, refl}
use Rattle.std.specs.Prelude.{codes}
use Rattle.decl_core.specs.ObjectMap.{object_of}
use Rattle.live_core.specs.declared.past.PastRun.TheVariants.{Calls}
use Rattle.live_core.specs.Text.{run_words}
use Rattle.live_core.proofs.Adding.{rows_more}
use Rattle.live_core.proofs.write.push_past.Goals as goal

pub loop-run-preserved : goal.loop-run-preserved
loop-run-preserved c =
    let inside : c.loop-run.run-index < length c.args.past.now = omega arith in
    rows_more (codes "past") (run_words (object_of c.args.object.now)) c.args.out.now.items c.loop-run.out.items c.push_run.new.out.items c.args.past.now c.loop-run.run-index (Calls 0 0) (get_or c.args.past.now c.loop-run.run-index (Calls 0 0)) inside refl c.loop-run.invariant
    c.in_ok-push_run.ensures
