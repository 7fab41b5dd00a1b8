use Rattle.std.proofs.Common.{ap, sym, ◌∙◌}
use Rattle.std.specs.FinMap.{insert}
use Rattle.device_core.specs.Papers.{part_key}
use Rattle.page_core.proofs.Saving.{stored_or_not, nothing_left}
use Rattle.page_core.proofs.save.save_part.Goals as goal

pub returns-in-Ok-store_part-clause-ok : goal.returns-in-Ok-store_part-clause-ok
returns-in-Ok-store_part-clause-ok g c = (
  c.in-Ok.bytes.items,
  c.in-Ok.ensures.ok,
  λ papers is.
      let one = c.in-Ok-store_part.ensures.ok papers is in
      (one.0, one.1, one.2 ∙ ap (insert one.0 (part_key c.args.at.object.now c.args.at.part.now.name)) c.deref.ensures.value),
)

pub returns-in-Err-clause-left : goal.returns-in-Err-clause-left
returns-in-Err-clause-left g c = nothing_left (g.H.Hand.agrees c.fetch_part.new.hand) (g.S.Shelf.holds c.args.shelf.now) c.args.at.object.now c.args.at.part.now c.args.pin.now c.in-Err.fault

pub returns-clause-left : goal.returns-clause-left
returns-clause-left g c =
    stored_or_not _ (g.S.Shelf.holds c.args.shelf.now) (g.S.Shelf.holds c.store_part.new.shelf) c.args.at.object.now c.args.at.part.now c.args.pin.now c.in-Ok.bytes.items c.args.at.number _ c.in-Ok.ensures.ok c.in-Err-store_part.fault c.in-Err-store_part.ensures.cause (rw (sym c.deref.ensures.value) c.in-Err-store_part.ensures.left)
