use Rattle.known_core.proofs.AllKnown.{at_index}
use Rattle.known_core.proofs.whole.needing_nothing.Goals as goal

pub unreachable-requires : goal.unreachable-requires
unreachable-requires c =
    c.requires.none c.in-Needs.part c.in-Needs.field-1 c.in-Needs.is c.place.ensures.few
    (at_index c.args.parts.now c.in-Needs.part c.place.result c.index-parts-place.result c.place.ensures.place (c.requires.there c.in-Needs.part c.in-Needs.field-1 c.in-Needs.is) c.index-parts-place.is c.kind-kind.ensures.contents)
