use Rattle.live_core.specs.HostedView.{scene_of}
use Rattle.std.proofs.Common.{◌∙◌, ap}
use Rattle.live_core.specs.Calls.{seat_of}
use Rattle.live_core.specs.Scene.{told_of}
use Rattle.live_core.proofs.Keeping.{remembers_one}
use Rattle.live_core.proofs.hosted.Hosted.remember.Goals as goal

pub returns-clause-remembered : goal.returns-clause-remembered
returns-clause-remembered c =
    remembers_one (scene_of c.self.inside) c.args.self.now c.args.ran.now c.end-named.new.self c.seat_of.result c.told-told.result c.end-named.result c.self.view_is
    (c.seat_of.ensures ∙ ap seat_of c.session.ensures) (c.told-told.ensures ∙ ap (told_of c.args.self.now) c.number.ensures) c.end-named.ensures.named c.end-named.ensures.nameless
