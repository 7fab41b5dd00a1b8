use Rattle.std.proofs.Common.{◌++◌, ap, ◌∙◌}
use Rattle.decl_core.specs.ObjectMap.{object_of}
use Rattle.live_core.specs.Text.{runs_text}
use Rattle.live_core.specs.Scene.{Scene}
use Rattle.live_core.proofs.Writing.{past_told}
use Rattle.live_core.proofs.hosted.Hosted.push_behind_parts.Goals as goal

pub returns : goal.returns
returns c =
    let out = c.args.out.now.items in
    let here = c.object.ensures ∙ ap (λ (s : Scene). s.hall.object) c.self.view_is in
    past_told c.args.self.now c.args.base c.args.runs.now out c.push_past.new.out.items c.push_base.new.out.items c.push_behind_base.new.out.items
    (c.in_ok-push_past.ensures ∙ ap (λ x. out ++ runs_text (object_of x) c.args.runs.now) here)
    c.in_ok-push_base.ensures c.in_ok-push_behind_base.ensures.tells c.in_ok-push_behind_base.ensures.fit
