use Rattle.std.proofs.Common.{◌≡◌, false, sym, ap, ◌∙◌, subst, arith, refl, ◌+◌}
use Rattle.std.proofs.Math.ListN.{set}
use Rattle.std.specs.Vec.{with_items, with_item}
use Rattle.std.proofs.lemmas.List.{with_items_is}
use Rattle.path_count.specs.Program.{after_start}
use Rattle.path_count.specs.Object.{all_have_room, after_all}
use Rattle.path_count.specs.Steps.{steps_of}
use Rattle.path_count.specs.View.{state_of}
use Rattle.path_count.specs.Stands.{StandsFor}
use Rattle.path_count.proofs.Fields.{starts_within_read, starts_small_read, running_read, few_running, decides_read, stands_started, standing_started}
use Rattle.path_count.proofs.counters.Counters.start.Goals as goal

pub all_admit-requires : goal.all_admit-requires
all_admit-requires c = rw (c.deref.ensures.value, c.deref-2.ensures.value)
    (starts_within_read c.self.inside c.args.op c.index.result.now c.self.invariant (record { inside = omega arith; is = c.index.ensures }))

pub returns-then-not-all_admit-clause-answer : goal.returns-then-not-all_admit-clause-answer
returns-then-not-all_admit-clause-answer c = λ n paths t h.
    let d = decides_read c.self.inside c.args.op c.index.result.now n paths t (subst (λ s. StandsFor s n paths t) (sym c.self.view_is) h) (record { inside = omega arith; is = c.index.ensures }) in
    let e : false ≡ all_have_room (steps_of c.index.result.now.starts.items) c.self.inside.words.items = sym c.if-not-all_admit.true ∙ c.all_admit.ensures
    ∙ ap (λ x. all_have_room (steps_of x) c.deref-2.result.now) c.deref.ensures.value ∙ ap (λ w. all_have_room (steps_of c.index.result.now.starts.items) w) c.deref-2.ensures.value in
    ((λ x. absurd (cc)), (λ may. e ∙ d.1 (may.0, may.1)))

pub start_all-requires-clause-within : goal.start_all-requires-clause-within
start_all-requires-clause-within c = rw (c.deref-3.ensures.value, c.deref_mut.ensures.value)
    (starts_within_read c.self.inside c.args.op c.index.result.now c.self.invariant (record { inside = omega arith; is = c.index.ensures }))

pub start_all-requires-clause-small : goal.start_all-requires-clause-small
start_all-requires-clause-small c = rw (c.deref-3.ensures.value, c.deref_mut.ensures.value)
    (starts_small_read c.self.inside c.args.op c.index.result.now c.self.invariant (record { inside = omega arith; is = c.index.ensures }))

pub overflow_add-index_mut : goal.overflow_add-index_mut
overflow_add-index_mut c = record {
  fits = omega (
    arith,
    few_running c.self.inside c.args.op c.self.invariant (omega arith),
    running_read c.self.inside c.args.op c.index_mut.result.now c.self.invariant (omega arith) c.index_mut.ensures.value,
  );
}

pub invariant_of-self : goal.invariant_of-self
invariant_of-self c =
    standing_started c.self.inside c.args.op c.index.result.now
    (state_of (record {
      words = with_items c.self.inside.words c.start_all.new.words;
      operations = c.self.inside.operations;
      running = with_item c.self.inside.running c.args.op (c.index_mut.result.now + 1);
      taken = c.self.inside.taken + 1;
    }))
    c.self.invariant (record { inside = omega arith; is = c.index.ensures }) (omega arith)
    (sym (ap (λ x. all_have_room (steps_of x) c.deref-2.result.now) c.deref.ensures.value ∙ ap (λ w. all_have_room (steps_of c.index.result.now.starts.items) w) c.deref-2.ensures.value) ∙ sym c.all_admit.ensures ∙ c.if-not-all_admit.false)
    (record {
      words = with_items_is c.self.inside.words c.start_all.new.words (omega arith)
          ∙ c.start_all.ensures ∙ ap (λ x. after_all after_start (steps_of x) c.deref_mut.result.now) c.deref-3.ensures.value ∙ ap (after_all after_start (steps_of c.index.result.now.starts.items)) c.deref_mut.ensures.value;
      starts = refl;
      finishes = refl;
      running = ap (λ x. set c.self.inside.running.items c.args.op (x + 1)) (running_read c.self.inside c.args.op c.index_mut.result.now c.self.invariant (omega arith) c.index_mut.ensures.value);
      taken = refl;
    })

pub returns-clause-answer : goal.returns-clause-answer
returns-clause-answer c = λ n paths t h.
    let h' = subst (λ s. StandsFor s n paths t) (sym c.self.view_is) h in
    let d = decides_read c.self.inside c.args.op c.index.result.now n paths t h' (record { inside = omega arith; is = c.index.ensures }) in
    let e = sym (ap (λ x. all_have_room (steps_of x) c.deref-2.result.now) c.deref.ensures.value ∙ ap (λ w. all_have_room (steps_of c.index.result.now.starts.items) w) c.deref-2.ensures.value) ∙ sym c.all_admit.ensures ∙ c.if-not-all_admit.false in
    ((λ x. let both = d.0 e in (both.0, both.1, omega (arith, h'.taken))), (λ may. refl))

pub returns-clause-taken : goal.returns-clause-taken
returns-clause-taken c = λ yes n paths t call h same fresh.
    stands_started c.self.inside c.args.op c.index.result.now n paths t call
    (state_of (record {
      words = with_items c.self.inside.words c.start_all.new.words;
      operations = c.self.inside.operations;
      running = with_item c.self.inside.running c.args.op (c.index_mut.result.now + 1);
      taken = c.self.inside.taken + 1;
    }))
    (subst (λ s. StandsFor s n paths t) (sym c.self.view_is) h) (record { inside = omega arith; is = c.index.ensures }) same (omega arith) fresh
    (sym (ap (λ x. all_have_room (steps_of x) c.deref-2.result.now) c.deref.ensures.value ∙ ap (λ w. all_have_room (steps_of c.index.result.now.starts.items) w) c.deref-2.ensures.value) ∙ sym c.all_admit.ensures ∙ c.if-not-all_admit.false)
    (record {
      words = with_items_is c.self.inside.words c.start_all.new.words (omega arith)
          ∙ c.start_all.ensures ∙ ap (λ x. after_all after_start (steps_of x) c.deref_mut.result.now) c.deref-3.ensures.value ∙ ap (after_all after_start (steps_of c.index.result.now.starts.items)) c.deref_mut.ensures.value;
      starts = refl;
      finishes = refl;
      running = ap (λ x. set c.self.inside.running.items c.args.op (x + 1)) (running_read c.self.inside c.args.op c.index_mut.result.now c.self.invariant (omega arith) c.index_mut.ensures.value);
      taken = refl;
    })
