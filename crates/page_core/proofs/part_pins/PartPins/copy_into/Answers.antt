use Rattle.std.proofs.Common.{length, ap, arith}
use Rattle.page_core.specs.PartPins.{count_pages}
use Rattle.page_core.proofs.PartRows.{count_by}
use Rattle.page_core.proofs.part_pins.PartPins.copy_into.Goals as goal

pub add_all-requires : goal.add_all-requires
add_all-requires c =
    omega (arith, c.requires.room, ap length c.requires.empty, ap length c.deref.ensures.value, count_by 0 c.self.inside.counts c.self.inside.stamps.items c.self.invariant.counted, ap count_pages c.self.view_is)
