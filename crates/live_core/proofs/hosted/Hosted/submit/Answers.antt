use Rattle.live_core.specs.HostedView.{scene_of}
use Rattle.live_core.proofs.Keeping.{refused_by, whose}
use Rattle.live_core.proofs.hosted.Hosted.submit.Goals as goal

pub returns-in-Err-clause-err : goal.returns-in-Err-clause-err
returns-in-Err-clause-err c =
    refused_by c.args.self.now c.ask.new.self (scene_of c.self.inside) c.submit.new.self c.withdraw.new.self c.args.session c.args.operation c.deref-2.result.now
    (whose c.args.self.now.guests c.args.session c.has_name-is_named.result c.has_name-is_named.ensures.yes c.has_name-is_named.ensures.no) c.self.view_is c.ask.ensures.left
    c.in_ok-ask.ensures.ok c.in-Err.ensures.refused.1 c.withdraw.ensures.named c.withdraw.ensures.nameless
