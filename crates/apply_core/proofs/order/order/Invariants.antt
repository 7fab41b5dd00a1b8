use Rattle.std.proofs.Common.{◌≡◌, length}
use Rattle.value_core.specs.TextOrder.{text_cmp}
use Rattle.apply_core.proofs.Integers.{AreBytes}
use Rattle.apply_core.proofs.order.order.Given as goal

abbrev pub invariant-eights : goal.invariant-eights
invariant-eights l = (text_cmp l.x l.y ≡ text_cmp l.first l.second) × AreBytes l.x × AreBytes l.y

abbrev pub decreases-eights : goal.decreases-eights
decreases-eights l = length l.x
