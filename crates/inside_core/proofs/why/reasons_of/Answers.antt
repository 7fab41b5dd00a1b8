use Rattle.std.proofs.Common.{◌∙◌, ap}
use Rattle.decl_core.specs.declared.object.Object.{Object}
use Rattle.live_core.specs.Hall.{Hall}
use Rattle.stuck_core.specs.ReasonViews.{whys_of}
use Rattle.inside_core.proofs.Whys.{are_whys}
use Rattle.inside_core.proofs.why.reasons_of.Goals as goal

pub returns : goal.returns
returns c =
    are_whys c.args.object.now c.args.operation c.counters.result.now c.deref.result.now (whys_of c.in_ok-found.found.items)
    (c.counters.ensures ∙ ap (λ (h : Hall). h.counters) c.live-live.ensures)
    (c.deref.ensures.value ∙ ap (λ (o : Object). o.paths.items) (c.object.ensures ∙ ap (λ (h : Hall). h.object) c.live-live.ensures)) c.in_ok-found.ensures
