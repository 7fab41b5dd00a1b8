use Rattle.std.proofs.Common.{◌≡◌, ◌≢◌, ◌+◌, ◌<◌, ◌∙◌, ℕ, Some, length, inl, inr, sym, ap, arith}
use Rattle.std.specs.Prelude.{slice_get}
use Rattle.std.proofs.lemmas.Bool.{cases_lt}
use Rattle.std.proofs.lemmas.Option.{slice_get_within}
use Rattle.word_core.specs.Events.{Called}
use Rattle.live_core.proofs.Places.{there, one_at}
use Rattle.live_core.proofs.waiting.first_of.Goals as goal

pub returns-then-found-operation : goal.returns-then-found-operation
returns-then-found-operation c = record {
  within = omega (arith, c.loop-place-test.true);
  there = λ less. (c.index-waiting-place.result, there c.args.waiting.now c.loop-place.place c.index-waiting-place.result less c.index-waiting-place.is, sym c.operation-found.ensures ∙ c.if-found-operation.true);
  earlier = c.loop-place.invariant.1;
}

pub loop-place-preserved : goal.loop-place-preserved
loop-place-preserved c = (
  omega (arith, c.loop-place-test.true),
  λ j d before at same. elim (cases_lt j c.loop-place.place) [
    | inl less ↦ c.loop-place.invariant.1 j d less at same
    | inr more ↦
        let e : c.loop-place.place ≡ j = omega (arith, before, more) in
        let here = one_at c.args.waiting.now c.loop-place.place j c.index-waiting-place.result d e (there c.args.waiting.now c.loop-place.place c.index-waiting-place.result c.loop-place-test.true c.index-waiting-place.is) at in
        c.if-found-operation.false (c.operation-found.ensures ∙ ap (λ (x : Called). x.operation) here ∙ same)
  ],
)

pub returns : goal.returns
returns c = record {
  within = omega arith;
  there = λ less. absurd (omega (arith, less));
  earlier = λ j d before at. c.loop-place.invariant.1 j d (omega (arith, before, c.loop-place-test.false, slice_get_within c.args.waiting.now j d at)) at;
}
