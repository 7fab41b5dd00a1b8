use Rattle.std.proofs.Common.{◌≤◌, ◌∙◌, length, arith}
use Rattle.stuck_core.specs.ReasonViews.{whys_of}
use Rattle.world_core.proofs.Running.{one_more, all_run}
use Rattle.world_core.proofs.answer.runs_of.Goals as goal

pub loop-place-preserved : goal.loop-place-preserved
loop-place-preserved c =
    one_more c.args.desk.now (whys_of c.args.reasons.now) c.loop-place.place c.loop-place.runs.items c.push_run.new.runs.items c.in_ok-push_run.ensures
    ∙ c.loop-place.invariant

pub returns : goal.returns
returns c =
    let few : length c.args.desk.now.calls ≤ c.loop-place.place = omega (arith, c.history.ensures.sound.counted.few, c.loop-place-test.false) in
    all_run c.args.desk.now (whys_of c.args.reasons.now) c.loop-place.place c.loop-place.runs.items few c.loop-place.invariant
