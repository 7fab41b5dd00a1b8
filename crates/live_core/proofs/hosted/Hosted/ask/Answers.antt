use Rattle.std.proofs.Common.{sym, subst}
use Rattle.live_core.specs.Scene.{Scene}
use Rattle.live_core.specs.HostedView.{scene_of}
use Rattle.live_core.proofs.Keeping.{Whose, asked_by, not_asked, same_guests, whose}
use Rattle.live_core.proofs.hosted.Hosted.ask.Goals as goal

pub returns-in-Ok-clause-ok : goal.returns-in-Ok-clause-ok
returns-in-Ok-clause-ok c =
    asked_by (scene_of c.self.inside) c.args.self.now c.ask.new.self c.args.session c.args.operation c.args.arguments.now c.self.view_is c.in-Ok.ensures.named
    (λ none. (c.in-Ok.ensures.nameless none).1)

pub returns-in-Err-clause-err : goal.returns-in-Err-clause-err
returns-in-Err-clause-err c =
    let now = whose c.args.self.now.guests c.args.session c.has_name-is_named.result c.has_name-is_named.ensures.yes c.has_name-is_named.ensures.no in
    same_guests (scene_of c.self.inside) c.args.self.now c.ask.new.self c.self.view_is
    (not_asked c.self.inside.guests c.ask.new.self c.args.session c.args.operation c.args.arguments.now c.in-Err.fault
    (subst (λ (w : Scene). Whose w.guests c.args.session) (sym c.self.view_is) now) c.in-Err.ensures.named (λ none. (c.in-Err.ensures.nameless none).1))
