use Rattle.live_core.specs.HostedView.{scene_of}
use Rattle.live_core.proofs.Keeping.{gone_by}
use Rattle.live_core.proofs.hosted.Hosted.let_go.Goals as goal

pub returns-clause-gone : goal.returns-clause-gone
returns-clause-gone c = λ _.
    gone_by (scene_of c.self.inside) c.args.self.now c.leave.new.self c.cancel-named.new.self c.args.session c.from.result c.args.told c.cancel-named.result c.self.view_is c.from.ensures
    (c.leave.ensures.gone c.if-not-leave.false) c.leave.ensures.held c.cancel-named.ensures.named c.cancel-named.ensures.nameless
