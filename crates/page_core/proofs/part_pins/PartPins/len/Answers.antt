use Rattle.std.proofs.Common.{length, ap, sym, ◌∙◌}
use Rattle.page_core.specs.PartPins.{count_pages}
use Rattle.page_core.proofs.PartRows.{count_by}
use Rattle.page_core.proofs.part_pins.PartPins.len.Goals as goal

pub returns : goal.returns
returns c = ap length c.deref-stamps.ensures.value ∙ sym (count_by 0 c.self.inside.counts c.self.inside.stamps.items c.self.invariant.counted) ∙ ap count_pages c.self.view_is
