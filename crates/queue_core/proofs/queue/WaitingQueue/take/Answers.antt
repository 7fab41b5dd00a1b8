use Rattle.std.proofs.Common.{add-one, ◌≡◌, ◌∙◌, ◌<◌, ◌++◌, take, drop, arith, ap, subst, sym, Some, length}
use Rattle.std.specs.Prelude.{slice_get, unwrap_or}
use Rattle.std.proofs.lemmas.Option.{slice_get-get_or}
use Rattle.page_core.proofs.Lists.{among_at}
use Rattle.queue_core.specs.Queue.{AreCounted}
use Rattle.queue_core.proofs.Queueing.{op_counted, op_within}
use Rattle.queue_core.proofs.queue.WaitingQueue.take.Goals as goal

pub count_out-requires : goal.count_out-requires
count_out-requires c =
    let within : c.args.place < length c.self.inside.rows.items = omega (arith, ap length c.self.view_is, c.requires) in
    let there : slice_get c.self.inside.rows.items c.args.place ≡ Some c.remove-asked.result =
    slice_get-get_or c.self.inside.rows.items c.args.place c.remove-asked.result within ∙ ap Some (sym c.remove-asked.ensures.value) in
    subst (λ o. o < length c.self.inside.counts) (sym c.op.ensures)
    (op_within c.self.inside.counts c.remove-asked.result.call.op (op_counted c.self.inside.rows.items c.self.inside.counts c.remove-asked.result c.self.invariant.counted (among_at c.self.inside.rows.items c.args.place c.remove-asked.result there)))

pub invariant_of-self : goal.invariant_of-self
invariant_of-self c =
    let within : c.args.place < length c.self.inside.rows.items = omega (arith, ap length c.self.view_is, c.requires) in
    let there : slice_get c.self.inside.rows.items c.args.place ≡ Some c.remove-asked.result =
    slice_get-get_or c.self.inside.rows.items c.args.place c.remove-asked.result within ∙ ap Some (sym c.remove-asked.ensures.value) in
    record {
      few = omega (arith, c.remove-asked.ensures.len, c.self.invariant.few);
      room = omega (arith, c.remove-asked.ensures.capacity, c.self.invariant.room);
      counted = subst (λ ws. AreCounted ws c.count_out.new.counts) (sym c.remove-asked.ensures.items)
          (subst (λ n. AreCounted (take c.args.place c.self.inside.rows.items ++ drop n c.self.inside.rows.items) c.count_out.new.counts) (add-one c.args.place)
          (c.count_out.ensures.counted c.self.inside.rows.items c.args.place c.remove-asked.result c.self.invariant.counted there (sym c.op.ensures)));
    }

pub returns-clause-call : goal.returns-clause-call
returns-clause-call c = λ w is0.
    let within : c.args.place < length c.self.inside.rows.items = omega (arith, ap length c.self.view_is, c.requires) in
    let is : slice_get c.self.inside.rows.items c.args.place ≡ Some w = ap (λ ws. slice_get ws c.args.place) c.self.view_is ∙ is0 in
    c.remove-asked.ensures.value ∙ ap (λ o. unwrap_or o w) (sym (slice_get-get_or c.self.inside.rows.items c.args.place c.remove-asked.result within) ∙ is)
