use Rattle.std.proofs.Common.{◌+◌, ◌∙◌, length, refl, ap}
use Rattle.decl_core.specs.HoldMap.{holds_of}
use Rattle.world_core.proofs.HoldAsking.{who_made}
use Rattle.world_core.proofs.asked.answer_who.Goals as goal

pub returns : goal.returns
returns c =
    who_made c.args.desk.now (holds_of c.args.rules.now) c.args.holds.now c.all-held.result.now c.object-object.result.now c.in_ok-waits.waits.count (c.in_ok-waits.waits.count + length c.all-held.result.now) (length c.all-held.result.now)
    c.in_ok-waits.waits.text.items c.deref.result.now c.args.out.now.items _ _ _ c.in_ok-waits.ensures (c.object-object.ensures.same ∙ c.accepted.ensures) c.all-held.ensures (ap length c.all-held.ensures) refl c.deref.ensures.value
    c.in_ok-push_who.ensures c.in_ok-extend_from_slice.ensures.items c.in_ok-push_all_held.ensures
