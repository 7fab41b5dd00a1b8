use Rattle.std.proofs.Common.{refl, ap, map, ◌∙◌, arith}
use Rattle.world_core.specs.Kept.{standing_of}
use Rattle.world_core.proofs.Opening.{new_staged, new_is}
use Rattle.world_core.proofs.world.World.new.Goals as goal

pub invariant_of-result : goal.invariant_of-result
invariant_of-result c = (
  new_staged _ c.args.accepted c.object.result.now _ c.object.ensures.same c.in_ok-desk.ensures c.history.ensures.sound c.in-Ok.ensures.served c.in-Ok.ensures.pinned c.in_ok-runs.ensures.items (omega (arith, c.in_ok-runs.ensures.capacity)),
  c.history.ensures.rests,
)

pub returns : goal.returns
returns c = new_is _ c.args.accepted c.object.result.now _ c.open_parts.new.shelf c.object.ensures.same c.in_ok-desk.ensures (c.open_parts.ensures.papers c.open_parts.new.shelf refl ∙ c.new-shelf.ensures) (c.in-Ok.ensures.loaded c.open_parts.new.shelf refl) (ap (map standing_of) c.in_ok-runs.ensures.items)
