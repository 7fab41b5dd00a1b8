use Rattle.std.proofs.Common.{Ok, ap}
use Rattle.live_core.specs.HostedView.{scene_of}
use Rattle.live_core.proofs.Following.{followed}
use Rattle.live_core.proofs.hosted.Hosted.begin_behind.Goals as goal

pub returns-clause-begun : goal.returns-clause-begun
returns-clause-begun c = λ _. followed (scene_of c.self.inside) c.args.self.now c.begun.new.self c.epoch.new.self c.args.past.items c.in_ok-carried.carried.items c.next_base-base.result c.self.view_is
    (rw c.deref-2.ensures.value at c.in_ok-epoch.ensures.begun (ap Ok c.if-not-branch.false))
    (rw c.deref-2.ensures.value at c.in_ok-epoch.ensures.held (ap Ok c.if-not-branch.false))
    c.in_ok-carried.ensures c.next_base-base.ensures c.begun.ensures
