use Rattle.std.proofs.Common.{◌∙◌}
use Rattle.serve_core.proofs.Asking.{puts_more, stays_more, first_puts}
use Rattle.serve_core.proofs.clear.put_all.Goals as goal
use Rattle.serve_core.proofs.clear.put_all.Goals.{then-put_left, else-put_left}

pub loop-number-init : goal.loop-number-init
loop-number-init g c = first_puts g.V.Values.does c.args.left c.args.values.now _ _ _ _ c.requires.none.0 c.requires.none.1

pub loop-number-preserved : goal.loop-number-preserved
loop-number-preserved g c =
    let so = c.loop-number.invariant in
    elim c.if-put_left.branch [
      | then-put_left w ↦ rw (w.moved-is) (puts_more g.V.Values.does c.args.left c.args.values.now c.loop-number.values c.put_left.new.self c.args.numbers.now c.loop-number.moved.there.items c.loop-number.moved.stays.items _
          c.loop-number.number-index c.put_left.result _ _ _ _ c.loop-number-test.true so.0 so.1 so.2 c.put_left.ensures w.if-put_left.true w.push_reserved.ensures.items (w.push_reserved.ensures.capacity ∙ so.3) so.4)
      | else-put_left w ↦ rw (w.moved-is) (stays_more g.V.Values.does c.args.left c.args.values.now c.loop-number.values c.put_left.new.self c.args.numbers.now c.loop-number.moved.there.items c.loop-number.moved.stays.items _
          c.loop-number.number-index c.put_left.result _ _ _ _ c.loop-number-test.true so.0 so.1 so.2 c.put_left.ensures w.if-put_left.false w.push_reserved-else-put_left.ensures.items so.3 (w.push_reserved-else-put_left.ensures.capacity ∙ so.4))
    ]
