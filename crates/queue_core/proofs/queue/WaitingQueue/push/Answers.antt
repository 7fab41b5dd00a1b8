use Rattle.std.proofs.Common.{◌∷◌, [], ◌∙◌, arith, ap, subst, sym, length, length-append}
use Rattle.queue_core.specs.Queue.{AreCounted}
use Rattle.queue_core.proofs.queue.WaitingQueue.push.Goals as goal

pub invariant_of-self : goal.invariant_of-self
invariant_of-self c =
    let long = ap length c.push_reserved.ensures.items ∙ length-append c.self.inside.rows.items (c.args.asked ∷ []) in
    let view = ap length c.self.view_is in
    record {
      few = omega (arith, long, view, c.requires.few);
      room = omega (arith, c.push_reserved.ensures.capacity, c.self.invariant.room);
      counted = subst (λ ws. AreCounted ws c.count_in.new.counts) (sym c.push_reserved.ensures.items)
          (c.count_in.ensures.counted c.self.inside.rows.items c.args.asked c.self.invariant.counted (omega (arith, c.self.invariant.few)) (sym c.op.ensures));
    }
