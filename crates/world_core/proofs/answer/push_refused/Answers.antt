use Rattle.std.proofs.Common.{◌≡◌, ◌∙◌, refl}
use Rattle.stuck_core.specs.ReasonViews.{whys_of}
use Rattle.world_core.proofs.Telling.{told_by, why_made}
use Rattle.world_core.proofs.answer.push_refused.Goals as goal

pub returns : goal.returns
returns c =
    let same : c.object-object.result.now ≡ c.args.desk.now.object = c.object-object.ensures.same ∙ c.accepted.ensures in
    let found = c.in_ok-reasons.reasons.items in (
      whys_of found,
      told_by c.args.desk.now c.in_ok-counters.counters c.object-object.result.now c.deref.result.now c.args.op c.args.op found c.in_ok-counters.ensures same c.deref.ensures.value refl c.in_ok-reasons.ensures,
      why_made c.args.desk.now c.object-object.result.now c.args.number c.args.out.now.items c.push_why.new.out.items found c.deref-3.result.now c.deref-2.result.now c.in_ok-runs.runs.items c.deref-4.result.now
          same c.in_ok-push_why.ensures c.deref-3.ensures.value c.deref-4.ensures.value c.deref-2.ensures.value c.in_ok-runs.ensures,
    )
