use Rattle.live_core.specs.HostedSteps.{rests}
use Rattle.client_core.proofs.Starting.{apart_at, steps_both}
use Rattle.client_core.proofs.start.leave_all.Goals as goal

pub loop-place-init : goal.loop-place-init
loop-place-init c = (rests, λ s apart taken free. taken free)

pub loop-place-preserved : goal.loop-place-preserved
loop-place-preserved c = (
  steps_both c.args.hosted.now c.loop-place.hosted c.leave_one.new.hosted c.loop-place.invariant.0 c.leave_one.ensures.steps,
  λ s apart taken. c.leave_one.ensures.others s (apart_at s c.args.others.now c.loop-place.place _ apart c.loop-place-test.true) (c.loop-place.invariant.1 s apart taken),
)
