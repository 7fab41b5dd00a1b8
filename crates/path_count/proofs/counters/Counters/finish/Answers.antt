use Rattle.std.proofs.Common.{sym, ap, ◌∙◌, subst, arith, refl, ◌-◌}
use Rattle.std.proofs.Math.ListN.{set}
use Rattle.std.specs.Vec.{with_items, with_item}
use Rattle.std.proofs.lemmas.List.{with_items_is}
use Rattle.path_count.specs.Program.{after_finish}
use Rattle.path_count.specs.Object.{after_all}
use Rattle.path_count.specs.Steps.{steps_of}
use Rattle.path_count.specs.View.{state_of}
use Rattle.path_count.specs.Stands.{StandsFor}
use Rattle.path_count.proofs.Fields.{finishes_within_read, finishes_small_read, running_read, stands_finished, standing_finished}
use Rattle.path_count.proofs.counters.Counters.finish.Goals as goal

pub finish_all-requires-clause-within : goal.finish_all-requires-clause-within
finish_all-requires-clause-within c = rw (c.deref.ensures.value, c.deref_mut.ensures.value)
    (finishes_within_read c.self.inside c.args.op c.index-2.result.now c.self.invariant (record { inside = omega arith; is = c.index-2.ensures }))

pub finish_all-requires-clause-small : goal.finish_all-requires-clause-small
finish_all-requires-clause-small c = rw (c.deref.ensures.value, c.deref_mut.ensures.value)
    (finishes_small_read c.self.inside c.args.op c.index-2.result.now c.self.invariant (record { inside = omega arith; is = c.index-2.ensures }))

pub invariant_of-self : goal.invariant_of-self
invariant_of-self c =
    standing_finished c.self.inside c.args.op c.index-2.result.now
    (state_of (record {
      words = with_items c.self.inside.words c.finish_all.new.words;
      operations = c.self.inside.operations;
      running = with_item c.self.inside.running c.args.op (c.index_mut.result.now - 1);
      taken = c.self.inside.taken;
    }))
    c.self.invariant (record { inside = omega arith; is = c.index-2.ensures })
    (omega (arith, c.if-index-eq0.false, running_read c.self.inside c.args.op c.index.result.now c.self.invariant (omega arith) c.index.ensures))
    (record {
      words = with_items_is c.self.inside.words c.finish_all.new.words (omega arith)
          ∙ c.finish_all.ensures ∙ ap (λ x. after_all after_finish (steps_of x) c.deref_mut.result.now) c.deref.ensures.value ∙ ap (after_all after_finish (steps_of c.index-2.result.now.finishes.items)) c.deref_mut.ensures.value;
      starts = refl;
      finishes = refl;
      running = ap (λ x. set c.self.inside.running.items c.args.op (x - 1)) (running_read c.self.inside c.args.op c.index_mut.result.now c.self.invariant (omega arith) c.index_mut.ensures.value);
      taken = refl;
    })

pub returns-clause-ended : goal.returns-clause-ended
returns-clause-ended c = λ yes n paths t call h same among.
    stands_finished c.self.inside c.args.op c.index-2.result.now n paths t call
    (state_of (record {
      words = with_items c.self.inside.words c.finish_all.new.words;
      operations = c.self.inside.operations;
      running = with_item c.self.inside.running c.args.op (c.index_mut.result.now - 1);
      taken = c.self.inside.taken;
    }))
    (subst (λ s. StandsFor s n paths t) (sym c.self.view_is) h) (record { inside = omega arith; is = c.index-2.ensures }) same among
    (record {
      words = with_items_is c.self.inside.words c.finish_all.new.words (omega arith)
          ∙ c.finish_all.ensures ∙ ap (λ x. after_all after_finish (steps_of x) c.deref_mut.result.now) c.deref.ensures.value ∙ ap (after_all after_finish (steps_of c.index-2.result.now.finishes.items)) c.deref_mut.ensures.value;
      starts = refl;
      finishes = refl;
      running = ap (λ x. set c.self.inside.running.items c.args.op (x - 1)) (running_read c.self.inside c.args.op c.index_mut.result.now c.self.invariant (omega arith) c.index_mut.ensures.value);
      taken = refl;
    })
