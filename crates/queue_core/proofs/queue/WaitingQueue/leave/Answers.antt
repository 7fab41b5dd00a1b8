use Rattle.std.proofs.Common.{◌<◌, ◌∙◌, ◌==◌, not, Bool, rules, arith, ap, subst, sym, length}
use Rattle.std.specs.List.{filter}
use Rattle.std.proofs.lemmas.Fn.{filter_same}
use Rattle.page_core.specs.ObjectCalls.{WaitingCall}
use Rattle.page_core.specs.Lists.{Every}
use Rattle.page_core.proofs.Lists.{Every-filter, filter_le}
use Rattle.queue_core.specs.Queue.{AreCounted}
use Rattle.queue_core.proofs.Queueing.{ops_within}
use Rattle.queue_core.proofs.queue.WaitingQueue.leave.Goals as goal

pub counts_of-self-inside-requires : goal.counts_of-self-inside-requires
counts_of-self-inside-requires c =
    let stays : WaitingCall → Bool = λ w. not (w.number == c.args.number) in
    let left = c.deref.ensures.value ∙ filter_same _ stays _ (λ x b q h. search rules) _ _ c.retain.ensures.filtered in
    let within : Every (λ w. w.call.op < 32) c.self.inside.rows.items = subst (λ n. Every (λ w. w.call.op < n) c.self.inside.rows.items) c.self.told (ops_within c.self.inside.rows.items c.self.inside.counts c.self.invariant.counted) in
    record {
      few = omega (arith, ap length left, filter_le stays c.self.inside.rows.items, c.self.invariant.few);
      each = subst (Every (λ w. w.call.op < 32)) (sym left) (Every-filter (λ (w : WaitingCall). w.call.op < 32) stays c.self.inside.rows.items within);
    }

pub invariant_of-self : goal.invariant_of-self
invariant_of-self c =
    let stays : WaitingCall → Bool = λ w. not (w.number == c.args.number) in
    let left = filter_same _ stays _ (λ x b q h. search rules) _ _ c.retain.ensures.filtered in
    record {
      few = omega (arith, ap length left, filter_le stays c.self.inside.rows.items, c.self.invariant.few);
      room = omega (arith, c.retain.ensures.capacity, c.self.invariant.room);
      counted = subst (λ ws. AreCounted ws c.counts_of-self-inside.result) c.deref.ensures.value c.counts_of-self-inside.ensures;
    }

pub returns : goal.returns
returns c =
    let stays : WaitingCall → Bool = λ w. not (w.number == c.args.number) in
    filter_same _ stays _ (λ x b q h. search rules) _ _ c.retain.ensures.filtered ∙ ap (filter stays) c.self.view_is
