use Rattle.std.proofs.Common.{refl, sym, ◌∙◌}
use Rattle.apply_core.proofs.Orders.{by_front, by_rest, behind_bytes}
use Rattle.apply_core.proofs.order.order.Goals as goal

pub eights-init : goal.eights-init
eights-init c = (refl, λ i. (c.type_inv.first i).fits, λ i. (c.type_inv.second i).fits)

pub returns-then-left-right : goal.returns-then-left-right
returns-then-left-right c =
    c.cmp-then-left-right.ensures
    ∙ sym (by_front c.eights.x.now c.eights.y.now c.from_be_bytes-left.result c.from_be_bytes-right.result c.in-len8-up.len_at_least c.in-len8-up-y.len_at_least c.eights.invariant.1 c.eights.invariant.2 c.from_be_bytes-left.ensures
    c.from_be_bytes-right.ensures c.if-left-right.true) ∙ c.eights.invariant.0

pub eights-preserved : goal.eights-preserved
eights-preserved c = (
  sym (by_rest c.eights.x.now c.eights.y.now c.from_be_bytes-left.result c.from_be_bytes-right.result c.in-len8-up.len_at_least c.in-len8-up-y.len_at_least c.eights.invariant.1 c.eights.invariant.2 c.from_be_bytes-left.ensures
      c.from_be_bytes-right.ensures c.if-left-right.false) ∙ c.eights.invariant.0,
  behind_bytes c.eights.x.now c.in-len8-up.len_at_least c.eights.invariant.1,
  behind_bytes c.eights.y.now c.in-len8-up-y.len_at_least c.eights.invariant.2,
)
